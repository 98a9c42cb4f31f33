use Rattle.std.proofs.Common.{ℕ, ◌+◌, get_or, arith}
use Rattle.std.proofs.lemmas.List.FromFn.{fill_by_all}
use Rattle.rows.proofs.join.add.Goals as goal

pub returns : goal.returns
returns c =
    fill_by_all (λ (b : ℕ). get_or c.args.sums.now b 0 + get_or c.args.weights.now b 0) c.loop-b.sums 8 0 c.loop-b.invariant.0
    (λ k h. c.loop-b.invariant.1 k (omega (arith, c.loop-b-test.false)))
