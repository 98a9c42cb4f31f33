-- Products of totals along the paths of a script, from line 2 on, by next lines and targets.
use Rattle.std.specs.Prelude.{◌≡◌, ℕ, zero, suc, ◌*◌, ◌^◌, max, Bool, true, false, cond, List, [], ◌∷◌, ◌++◌, ◌==◌, slice_index}
use Rattle.std.specs.List.{list_any}
use Rattle.script.specs.Model.{Action, Branch, permute, shuffle, turn, committed, opened, none}

-- how many draws the line has: one where there is nothing to draw
abbrev pub total : Action → ℕ
total (permute images next) = 1
total (shuffle draws next) = draws
total (turn places branches) = 1
total (committed left right) = 1
total (opened value) = 1
total none = 1

abbrev pub shuffles : Action → Bool
shuffles (permute images next) = false
shuffles (shuffle draws next) = true
shuffles (turn places branches) = false
shuffles (committed left right) = false
shuffles (opened value) = false
shuffles none = false

-- some branch has this target
abbrev pub targets : List Branch → ℕ → Bool
targets bs line = list_any (λ b. b.target == line) bs

-- the action may go on to this line
abbrev pub leads : Action → ℕ → Bool
leads (permute images next) line = next == line
leads (shuffle draws next) line = next == line
leads (turn places branches) line = targets branches line
leads (committed left right) line = false
leads (opened value) line = false
leads none line = false

-- A path from line 2 to a line, and the product of the totals of the lines that it passes before it.
pub data Path (act : ℕ → Action) : ℕ → ℕ → Type 0 where
  start : Path act 2 1
  onward : (line product next : ℕ) → Path act line product → leads (act line) next ≡ true
      → Path act next (product * total (act line))

-- The greatest product with which a path arrives at `line` from one of the first so many lines, where `arrived` has the
-- greatest product of a path to each of those; 0 where none does.
abbrev pub best : (ℕ → Action) → List ℕ → ℕ → ℕ → ℕ
best act arrived line zero = 0
best act arrived line (suc from) =
    max (best act arrived line from) (cond (leads (act from) line) (slice_index arrived from * total (act from)) 0)

abbrev pub arrival : (ℕ → Action) → ℕ → List ℕ → ℕ
arrival act line arrived = cond (line == 2) 1 (best act arrived line line)

-- the greatest product of a path to each of the first so many lines, 0 where no path leads to it
unfoldable pub arrivals : (ℕ → Action) → ℕ → List ℕ
arrivals act zero = []
arrivals act (suc line) = arrivals act line ++ arrival act line (arrivals act line) ∷ []

-- the greatest product of a path to the line, with the line's own total
abbrev pub greatest : (ℕ → Action) → ℕ → ℕ
greatest act line = arrival act line (arrivals act line) * total (act line)

abbrev pub limit : ℕ
limit = 2 ^ 40
