use Rattle.std.proofs.Common.{[], suc, ◌-◌}
use Rattle.format.specs.Kinds.{branches_form}
use Rattle.format.proofs.Joining.{Come}
use Rattle.format.proofs.cursor.Cursor.branches.Given as goal

abbrev pub invariant-loop : goal.invariant-loop
invariant-loop l =
    let form = branches_form l.turn.deck l.turn.turned (suc l.fn.self.line) l.turn.last in
    Come (form l.count []) l.fn.self (form (l.count - l.counter) l.previous) l.self
