-- What each refusal of check names.
use Rattle.std.specs.Prelude.{ℕ}
use Rattle.script.specs.Faults.{Fault}
use Rattle.script.specs.declared.fault.Layer.TheVariants.{Sheet}
use Rattle.heads.specs.declared.fault.SheetFault.{SheetFault}
use Rattle.heads.specs.declared.fault.SheetFault.TheVariants.{Length, FewLines, Byte, PlayerCode, ResultKind, LastLine, Product}

abbrev pub sheet_fault : ℕ → ℕ → ℕ → Fault
sheet_fault number line place = record { number = number; layer = Sheet; line = line; place = place }

-- what each refusal of check names
abbrev pub shown : SheetFault → Fault
shown (Length line) = sheet_fault 8 line 0
shown (FewLines lines) = sheet_fault 9 lines 0
shown (Byte line index) = sheet_fault 10 line index
shown (PlayerCode code) = sheet_fault 14 1 code
shown (ResultKind line) = sheet_fault 17 line 0
shown (LastLine line) = sheet_fault 18 line 0
shown (Product line) = sheet_fault 19 line 0
