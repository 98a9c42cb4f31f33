-- Branches, one after another.
use Rattle.std.specs.Prelude.{◌≡◌, ℕ, zero, suc, ◌<◌, ◌≤◌, List, [], ◌∷◌, length, take, drop, slice_index, refl}
use Rattle.std.proofs.Common.{arith, ⊎_elim, sym, ap, ◌∙◌}
use Rattle.std.proofs.Math.Seq.{drop-cons}
use Rattle.std.proofs.lemmas.List.{length-drop}
use Rattle.std.specs.List.{IsSplitAt, IsFirstAndRest}
use Rattle.std.proofs.lemmas.Bool.{cases_lt, le-leb, lt-leb}
use Rattle.sheet.specs.Scripts.{branches_in, branches_of}

branches_fuel : (n m t : ℕ) (bs : List ℕ) → length bs ≤ n → length bs ≤ m → branches_in n t bs ≡ branches_in m t bs
branches_fuel zero zero t bs h k = refl
branches_fuel zero (suc m) t bs h k = rw (le-leb (length bs) t (omega arith))
branches_fuel (suc n) zero t bs h k = rw (le-leb (length bs) t (omega arith))
branches_fuel (suc n) (suc m) t bs h k =
    ⊎_elim
    (λ l. rw (lt-leb (length bs) t l)
    (ap (λ rest. record { marks = take t bs; target = slice_index bs t } ∷ rest)
    (branches_fuel n m t (drop (suc t) bs) (rw (length-drop (suc t) bs) (omega arith)) (rw (length-drop (suc t) bs) (omega arith)))))
    (λ l. rw (le-leb (length bs) t l))
    (cases_lt t (length bs))

pub branches_step : (t : ℕ) (bs : List ℕ) → t < length bs
    → branches_of t bs ≡ record { marks = take t bs; target = slice_index bs t } ∷ branches_of t (drop (suc t) bs)
branches_step t bs l = go (length bs) refl
  where
    go : (n : ℕ) → n ≡ length bs → branches_in n t bs ≡ record { marks = take t bs; target = slice_index bs t } ∷ branches_of t (drop (suc t) bs)
    go zero e = absurd (omega arith)
    go (suc n) e =
        rw (lt-leb (length bs) t l)
        (ap (λ rest. record { marks = take t bs; target = slice_index bs t } ∷ rest)
        (branches_fuel n (length (drop (suc t) bs)) t (drop (suc t) bs) (rw (length-drop (suc t) bs) (omega arith)) (omega arith)))

-- a branch as the code splits it off
pub branch_next : (t : ℕ) (bs marks others : List ℕ) (x : ℕ) (rest : List ℕ) → IsSplitAt bs t marks others → IsFirstAndRest others x rest
    → branches_of t bs ≡ record { marks = marks; target = x } ∷ branches_of t rest
branch_next t bs marks others x rest s f =
    let l : t < length bs = omega arith in
    let d : x ∷ rest ≡ slice_index bs t ∷ drop (suc t) bs = sym f.0 ∙ (s.2 ∙ drop-cons bs t 0 l) in
    let a : x ≡ slice_index bs t = cc in
    let b : rest ≡ drop (suc t) bs = cc in
    rw (s.1, a, b) (branches_step t bs l)

pub branches_none : (t : ℕ) (bs : List ℕ) → length bs ≤ t → branches_of t bs ≡ []
branches_none t bs l = go (length bs)
  where
    go : (n : ℕ) → branches_in n t bs ≡ []
    go zero = refl
    go (suc n) = rw (le-leb (length bs) t l)
