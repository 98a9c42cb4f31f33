use Rattle.std.proofs.Common.{◌≡◌, ℕ, min, List, sym, ap, ◌∙◌, subst, arith, rules}
use Rattle.cards.proofs.Moves.{unpack_dealt, pack_unpack}
use Rattle.cards.specs.Rows.{packed, unpacked, Dealt}
use Rattle.cards.proofs.row.Row.unpack.Goals as goal

pub returns-clause-dealt : goal.returns-clause-dealt
returns-clause-dealt c =
    let is : c.digits.result ≡ unpacked (min c.args.n 12) c.args.number = search rules in
    subst (λ (row : List ℕ). Dealt (min c.args.n 12) row) (sym is) (unpack_dealt (min c.args.n 12) c.args.number (omega arith))

pub returns-clause-back : goal.returns-clause-back
returns-clause-back c =
    let is : c.digits.result ≡ unpacked (min c.args.n 12) c.args.number = search rules in
    λ low small.
    let e : min c.args.n 12 ≡ c.args.n = omega arith in
    ap (λ (row : List ℕ). packed c.args.n row) (is ∙ ap (λ (k : ℕ). unpacked k c.args.number) e)
    ∙ pack_unpack c.args.n c.args.number low small
