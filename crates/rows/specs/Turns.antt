-- The children of a turn one at a time, in the order of their marks.
use Rattle.std.specs.Prelude.{◌≡◌, ℕ, Bool, true, List, [], ◌∷◌, length, take, Some, None, filter, Option, MatchOption}
use Rattle.protocol.specs.States.{Row, Child, before, shows, is_shown, children}

-- marks of so many places come after the last ones, or before the least so far; any do where there are none
abbrev pub follows : Option (List ℕ) → List ℕ → ℕ → Bool
follows None marks places = true
follows (Some last) marks places = before (take places last) (take places marks)

abbrev pub leads : Option (List ℕ) → List ℕ → ℕ → Bool
leads None marks places = true
leads (Some least) marks places = before (take places marks) (take places least)

-- the rows that show marks above these
abbrev pub later : ℕ → List ℕ → List ℕ → List Row → List Row
later n places marks rows = filter (λ r. before marks (shows n places r)) rows

-- the rows of the children that come after the last marks, and all rows where there are none yet
abbrev pub rows_after : ℕ → List ℕ → Option (List ℕ) → List Row → List Row
rows_after n places None rows = rows
rows_after n places (Some marks) rows = later n places (take (length places) marks) rows

-- the child with these marks
abbrev pub child_of : ℕ → List ℕ → List ℕ → List Row → Child
child_of n places marks rows = record { marks = marks; rows = filter (is_shown n places marks) rows }

-- What comes of the children that are left: none, or the one with these marks and then those after it.
abbrev pub Next : ℕ → List ℕ → List Row → Option (List ℕ) → List Child → Type 0
Next n places rows answer left =
    MatchOption answer (left ≡ [])
    (λ marks. left ≡ child_of n places (take (length places) marks) rows ∷ children n places (later n places (take (length places) marks) rows))
