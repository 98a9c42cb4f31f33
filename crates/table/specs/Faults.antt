-- What each refusal of a table's call names.
use Rattle.std.specs.Prelude.{ℕ}
use Rattle.script.specs.Faults.{Fault}
use Rattle.script.specs.declared.fault.Layer.TheVariants.{Table}
use Rattle.table.specs.declared.fault.TableFault.{TableFault}
use Rattle.table.specs.declared.fault.TableFault.TheVariants.{NotLaid, NotEmpty, NoInput, Ended, OtherKind, Draw, RecordFull, Unread}
use Rattle.table.specs.declared.phase.Phase.{Phase}
use Rattle.table.specs.declared.phase.Phase.TheVariants.{Empty, Running}
use Rattle.table.specs.declared.phase.Phase.TheVariants as phase

abbrev pub table_fault : ℕ → ℕ → Fault
table_fault number line = record { number = number; layer = Table; line = line; place = 0 }

abbrev pub shown : TableFault → Fault
shown (NotLaid line) = table_fault 24 line
shown (NotEmpty line) = table_fault 25 line
shown (NoInput line) = table_fault 26 line
shown (Ended line) = table_fault 27 line
shown (OtherKind line) = table_fault 28 line
shown (Draw line) = table_fault 29 line
shown (RecordFull line) = table_fault 30 line
shown (Unread line) = table_fault 31 line

-- what a step, a turn or a finish is refused for where the table's phase or its line is not for the call
abbrev pub not_fit : Phase → ℕ → TableFault
not_fit Empty line = NotLaid line
not_fit Running line = OtherKind line
not_fit phase.Ended line = Ended line
