use Rattle.std.proofs.Common.{◌-◌}
use Rattle.format.specs.Kinds.{entries_form}
use Rattle.format.proofs.Joining.{Come}
use Rattle.format.proofs.cursor.Cursor.entries.Given as goal

abbrev pub invariant-loop : goal.invariant-loop
invariant-loop l =
    Come (entries_form l.count l.slots) l.fn.self (entries_form (l.count - l.counter) l.slots) l.self
