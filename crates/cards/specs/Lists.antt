-- Tests and words on lists of numbers that the definitions share.
use Rattle.std.specs.Prelude.{ℕ, suc, Bool, true, false, cond, not, ◌&&◌, ◌||◌, List, [], ◌∷◌, map, ◌==◌, nat_le}
use Rattle.std.specs.List.{range_with_len}

-- x stands in the list
abbrev pub member : ℕ → List ℕ → Bool
member x [] = false
member x (y ∷ ys) = y == x || member x ys

-- each number lies from low to high, and none stands twice
abbrev pub distinct : ℕ → ℕ → List ℕ → Bool
distinct low high [] = true
distinct low high (x ∷ xs) = (nat_le low x && nat_le x high) && (not (member x xs) && distinct low high xs)

-- the position of the first x in the list, or the list's length where there is none
abbrev pub position : ℕ → List ℕ → ℕ
position x [] = 0
position x (y ∷ ys) = cond (y == x) 0 (suc (position x ys))

-- f 0, f 1, .. , f (n − 1)
abbrev pub table : {X : Type 0} → ℕ → (ℕ → X) → List X
table n f = map f (range_with_len 0 n)
