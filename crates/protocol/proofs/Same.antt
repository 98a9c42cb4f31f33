-- The tests of sameness on marks and traces decide equality.
use Rattle.std.proofs.Common.{◌≡◌, ℕ, Bool, true, false, eqb, List, [], ◌∷◌, refl, eq-eqb, eqb-true}
use Rattle.std.proofs.lemmas.Bool.{and_parts, and_from, false≢true}
use Rattle.protocol.specs.Machine.{same, Trace, same_trace}

pub same_refl : (xs : List ℕ) → same xs xs ≡ true
same_refl [] = refl
same_refl (x ∷ xs) = and_from (eqb x x) (same xs xs) (eq-eqb x x refl) (same_refl xs)

pub same_true : (xs ys : List ℕ) → same xs ys ≡ true → xs ≡ ys
same_true [] [] h = refl
same_true [] (y ∷ ys) h = absurd (false≢true h)
same_true (x ∷ xs) [] h = absurd (false≢true h)
same_true (x ∷ xs) (y ∷ ys) h =
    let k = and_parts (eqb x y) (same xs ys) h in
    let e = eqb-true x y k.0 in
    let f = same_true xs ys k.1 in
    cc

pub same_trace_refl : (xs : Trace) → same_trace xs xs ≡ true
same_trace_refl [] = refl
same_trace_refl (x ∷ xs) = and_from (same x x) (same_trace xs xs) (same_refl x) (same_trace_refl xs)

pub same_trace_true : (xs ys : Trace) → same_trace xs ys ≡ true → xs ≡ ys
same_trace_true [] [] h = refl
same_trace_true [] (y ∷ ys) h = absurd (false≢true h)
same_trace_true (x ∷ xs) [] h = absurd (false≢true h)
same_trace_true (x ∷ xs) (y ∷ ys) h =
    let k = and_parts (same x y) (same_trace xs ys) h in
    let e = same_true x y k.0 in
    let f = same_trace_true xs ys k.1 in
    cc

-- a test that is not true is false
pub false_from : (t : Bool) → (t ≡ true → ⊥) → t ≡ false
false_from true h = absurd (h refl)
false_from false h = refl
