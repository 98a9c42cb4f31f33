use Rattle.std.proofs.Common.{ℕ, suc, ◌+◌, ◌-◌, subst}
use Rattle.format.specs.Kinds.{branch_form, branches_form}
use Rattle.format.specs.Taking.{Passed}
use Rattle.format.proofs.Joining.{come_as, come_part, one_more}
use Rattle.format.proofs.cursor.Cursor.branches.Goals as goal

pub loop-preserved : goal.loop-preserved
loop-preserved c =
    let forms = branches_form c.args.turn.now.deck c.args.turn.now.turned (suc c.args.self.now.line) c.args.turn.now.last in
    let part = branch_form c.args.turn.now.deck c.args.turn.now.turned (suc c.args.self.now.line) c.args.turn.now.last c.loop.previous.now in
    let passed = subst
    (λ (line : ℕ). Passed (branch_form c.args.turn.now.deck c.args.turn.now.turned (suc line) c.args.turn.now.last c.loop.previous.now)
    c.loop.self c.in_ok-previous.previous.now c.branch-self.new.self)
    c.loop.invariant.line c.in_ok-previous.ensures in
    let come = come_as (one_more (λ k. forms k c.loop.previous.now) c.args.count c.loop.counter c.loop-test.true) c.loop.invariant in
    come_part part (forms (c.args.count - (c.loop.counter + 1))) passed come
