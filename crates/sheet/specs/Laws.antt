-- What holds of every sheet that passes.
use Rattle.std.specs.Prelude.{◌≡◌, ℕ, ◌*◌, ◌≤◌, List, None}
use Rattle.script.specs.Model.{LawfulScript, Script}
use Rattle.sheet.specs.Products.{Path, total, limit}
use Rattle.sheet.specs.Scripts.{script_of}
use Rattle.sheet.specs.Verdicts.{verdict}

-- Along every path from line 2 the product of the totals is at most 2^40, the total of the line that it comes to included.
abbrev pub SmallProducts : Script → Type 0
SmallProducts s = (line product : ℕ) → Path s.action line product → product * total (s.action line) ≤ limit

-- A sheet that passes is a lawful script with small products.
pub record CheckLaw : Type 0 where
  pub lawful : (sheet : List ℕ) → verdict sheet ≡ None → LawfulScript (script_of sheet)
  pub small : (sheet : List ℕ) → verdict sheet ≡ None → SmallProducts (script_of sheet)
