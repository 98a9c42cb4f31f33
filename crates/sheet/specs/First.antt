-- The first of several answers that is something.
use Rattle.std.specs.Prelude.{ℕ, zero, suc, Bool, cond, List, [], ◌∷◌, Some, None, Option}

abbrev pub or_else : {X : Type 0} → Option X → Option X → Option X
or_else None y = y
or_else (Some x) y = Some x

-- the first of the list
abbrev pub first_of : {X : Type 0} → List (Option X) → Option X
first_of [] = None
first_of (o ∷ os) = or_else o (first_of os)

-- the first of f 0, f 1, .. , f (n − 1)
unfoldable pub first : {X : Type 0} → ℕ → (ℕ → Option X) → Option X
first zero f = None
first (suc n) f = or_else (first n f) (f n)

-- x where the test holds
abbrev pub given : {X : Type 0} → Bool → X → Option X
given t x = cond t (Some x) None

abbrev pub mapped : {X Y : Type 0} → (X → Y) → Option X → Option Y
mapped f None = None
mapped f (Some x) = Some (f x)

abbrev pub value_or : {X : Type 0} → X → Option X → X
value_or d None = d
value_or d (Some x) = x
