use Rattle.std.proofs.Common.{ℕ, ◌+◌, ◌-◌}
use Rattle.std.proofs.lemmas.Result.{err_from_is_err_and}
use Rattle.format.specs.Form.{Form}
use Rattle.format.specs.Kinds.{entry_form, entries_form}
use Rattle.format.proofs.Joining.{come_as, come_part, broken_here, one_more}
use Rattle.format.proofs.cursor.Cursor.entries.Goals as goal

pub returns-in_err-entry : goal.returns-in_err-entry
returns-in_err-entry c =
    let forms : ℕ → Form = λ k. entries_form k c.args.slots in
    let p = err_from_is_err_and c.from_residual.result c.from_residual.ensures.1 in
    let come = come_as (one_more forms c.args.count c.loop.counter c.loop-test.true) c.loop.invariant in
    rw (p.1, p.2) (broken_here (entry_form c.args.slots) (λ _. forms (c.args.count - (c.loop.counter + 1))) c.in_err-entry.ensures come)

pub loop-preserved : goal.loop-preserved
loop-preserved c =
    let forms : ℕ → Form = λ k. entries_form k c.args.slots in
    let come = come_as (one_more forms c.args.count c.loop.counter c.loop-test.true) c.loop.invariant in
    come_part (entry_form c.args.slots) (λ _. forms (c.args.count - (c.loop.counter + 1))) c.in_ok-entry.ensures.1 come
