-- What the passes of check promise.
use Rattle.std.specs.Prelude.{◌≡◌, ℕ, ◌≤◌, List, [], Some, None, Option, Result, MatchResult}
use Rattle.heads.specs.declared.fault.SheetFault.{SheetFault}
use Rattle.heads.specs.declared.head.Head.{Head}
use Rattle.script.specs.Faults.{Fault}
use Rattle.heads.specs.Faults.{shown}
use Rattle.sheet.specs.First.{first}
use Rattle.sheet.specs.Lines.{left, line_count}
use Rattle.sheet.specs.Scripts.{head}
use Rattle.sheet.specs.Verdicts.{length_fault, line_fault}

-- The call passes where there is no fault, and else is refused by the fault.
abbrev pub Outcome : {Y : Type 0} → Result Y SheetFault → Option Fault → Type 0
Outcome r o = MatchResult r (λ _. o ≡ None) (λ e. o ≡ Some (shown e))

-- The lines are counted, and every length byte is sound.
pub record Counted (sheet : List ℕ) (lines : ℕ) : Type 0 where
  pub sound : first 65 (length_fault sheet) ≡ None
  pub count : lines ≡ line_count sheet
  pub few : lines ≤ 64
  pub over : left sheet lines ≡ []

-- Every frame keeps its form, and no player's code is missing.
pub record FramesRead (sheet : List ℕ) (lines : ℕ) (h : Head) : Type 0 where
  pub sound : first lines (line_fault sheet) ≡ None
  pub heads : h ≡ head sheet
