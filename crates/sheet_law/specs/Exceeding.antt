-- Refusal 19 in the words of paths.
use Rattle.std.specs.Prelude.{◌≡◌, ℕ, ◌*◌, ◌<◌, true, List, [], ◌∷◌, Some, None, Option}
use Rattle.script.specs.Faults.{Fault}
use Rattle.heads.specs.Faults.{sheet_fault}
use Rattle.sheet.specs.First.{first, first_of}
use Rattle.sheet.specs.Lines.{line_count}
use Rattle.sheet.specs.Products.{Path, shuffles, total, limit}
use Rattle.sheet.specs.Scripts.{action}
use Rattle.sheet.specs.Verdicts.{verdict, length_fault, few_fault, line_fault, result_fault, last_fault}

-- The line is a shuffle, and some path leads from line 2 to it so that the product of the totals along the path, the
-- line's own total included, is above the limit.
pub record Exceeds (sheet : List ℕ) (line : ℕ) : Type 0 where
  pub shuffle : shuffles (action sheet line) ≡ true
  pub product : ℕ
  pub path : Path (action sheet) line product
  pub above : limit < product * total (action sheet line)

-- the lowest such line
pub record Lowest (sheet : List ℕ) (line : ℕ) : Type 0 where
  pub exceeds : Exceeds sheet line
  pub lowest : (lower : ℕ) → lower < line → Exceeds sheet lower → ⊥

-- what is refused before the products are looked at: the lengths, the number of lines, the frames, the kinds of the
-- results, the last line
abbrev pub before_products : List ℕ → Option Fault
before_products sheet =
    first_of (first 65 (length_fault sheet)
    ∷ few_fault sheet
    ∷ first (line_count sheet) (line_fault sheet)
    ∷ first (line_count sheet) (result_fault sheet)
    ∷ last_fault sheet
    ∷ [])

-- A refusal 19 names the lowest line that exceeds the limit, and nothing is refused before it. And where nothing is
-- refused before and some line exceeds the limit, the refusal is 19 at the lowest such line.
pub record ExceedingLaw : Type 0 where
  pub refused : (sheet : List ℕ) (fault : Fault) → verdict sheet ≡ Some fault → fault.number ≡ 19
      → (before_products sheet ≡ None) × Lowest sheet fault.line
  pub found : (sheet : List ℕ) (line : ℕ) → before_products sheet ≡ None → Exceeds sheet line
      → (lowest : ℕ) × (Lowest sheet lowest × (verdict sheet ≡ Some (sheet_fault 19 lowest 0)))
