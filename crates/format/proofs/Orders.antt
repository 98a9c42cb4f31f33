-- Dictionary order where the second list has one number.
use Rattle.std.proofs.Common.{◌≡◌, ℕ, ◌≤◌, Bool, true, false, ◌&&◌, ◌||◌, eqb, ltb, List, [], ◌∷◌, ◌++◌, length, get_or, refl, arith}
use Rattle.format.specs.Kinds.{precedes}

none_before : (xs : List ℕ) → precedes xs [] ≡ false
none_before [] = refl
none_before (x ∷ xs) = refl

pub alone : (previous before : List ℕ) (b : ℕ) → 1 ≤ length previous → length before ≡ 0
    → ltb (get_or previous 0 0) b ≡ precedes previous (before ++ b ∷ [])
alone [] before b l e = absurd (omega arith)
alone (x ∷ xs) [] b l e = rw (none_before xs) (or_and (ltb x b) (eqb x b))
  where
    or_and : (p q : Bool) → p ≡ (p || (q && false))
    or_and true q = refl
    or_and false true = refl
    or_and false false = refl
alone (x ∷ xs) (y ∷ ys) b l e = absurd (omega arith)
