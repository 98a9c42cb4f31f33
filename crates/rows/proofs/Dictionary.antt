-- Lists of marks: when two are the same, and dictionary order.
use Rattle.std.proofs.Common.{◌≡◌, ℕ, ◌+◌, ◌<◌, Bool, true, false, ◌&&◌, eqb, ltb, ◌⊎◌, List, [], ◌∷◌, length, sym, refl, ap, ◌∙◌, subst, inl, inr, arith}
use Rattle.std.proofs.lemmas.Bool.{lt-ltb, le-ltb, eq-eqb, ne_eqb, eqb-true, cases_Bool, cases_order, false≢true, both_ways}
use lib.Pointwise.{pointwise}
use Rattle.protocol.specs.Machine.{same}
use Rattle.protocol.specs.States.{before}

-- where one list has ended, the one that was shorter comes first
pub before_done : (a b : List ℕ) (m n : ℕ) → (length a ≡ 0) ⊎ (length b ≡ 0) → length a + n ≡ length b + m → ltb m n ≡ before a b
before_done [] [] m n h e = le-ltb m n (omega arith)
before_done [] (y ∷ ys) m n h e = lt-ltb m n (omega arith)
before_done (x ∷ xs) [] m n h e = le-ltb m n (omega arith)
before_done (x ∷ xs) (y ∷ ys) m n (inl h) e = absurd (omega arith)
before_done (x ∷ xs) (y ∷ ys) m n (inr h) e = absurd (omega arith)

pub same_true : (a b : List ℕ) → same a b ≡ true → a ≡ b
same_true [] [] h = refl
same_true [] (y ∷ ys) h = absurd (false≢true h)
same_true (x ∷ xs) [] h = absurd (false≢true h)
same_true (x ∷ xs) (y ∷ ys) h = go (same_true xs ys) (eqb x y) refl h
  where
    go : (same xs ys ≡ true → xs ≡ ys) → (t : Bool) → eqb x y ≡ t → (t && same xs ys) ≡ true → x ∷ xs ≡ y ∷ ys
    go ih true e f = ap (λ (z : ℕ). z ∷ xs) (eqb-true x y e) ∙ ap (λ (zs : List ℕ). y ∷ zs) (ih f)
    go ih false e f = absurd (false≢true f)

-- what `==` of slices says
pub same_is : (a b : List ℕ) → pointwise eqb a b ≡ same a b
same_is [] [] = refl
same_is [] (y ∷ ys) = refl
same_is (x ∷ xs) [] = refl
same_is (x ∷ xs) (y ∷ ys) = ap (λ (t : Bool). eqb x y && t) (same_is xs ys)

pub same_refl : (a : List ℕ) → same a a ≡ true
same_refl [] = refl
same_refl (x ∷ xs) = rw (eq-eqb x x refl) (same_refl xs)

-- Dictionary order is a strict order of all lists: if neither of two comes before the other they are one.
pub before_refl : (a : List ℕ) → before a a ≡ false
before_refl [] = refl
before_refl (x ∷ xs) = rw (le-ltb x x (omega arith), eq-eqb x x refl) (before_refl xs)

pub before_neither : (a b : List ℕ) → before a b ≡ false → before b a ≡ false → a ≡ b
before_neither [] [] h k = refl
before_neither [] (y ∷ ys) h k = absurd (false≢true (sym h))
before_neither (x ∷ xs) [] h k = absurd (false≢true (sym k))
before_neither (x ∷ xs) (y ∷ ys) h k = go (before_neither xs ys) (cases_order x y)
  where
    go : (before xs ys ≡ false → before ys xs ≡ false → xs ≡ ys) → (x ≡ y) ⊎ ((x < y) ⊎ (y < x)) → x ∷ xs ≡ y ∷ ys
    go ih (inl e) =
        let f : before xs ys ≡ false = rw (le-ltb x y (omega arith), eq-eqb x y e) at h in
        let g : before ys xs ≡ false = rw (le-ltb y x (omega arith), eq-eqb y x (sym e)) at k in
        ap (λ (z : ℕ). z ∷ xs) e ∙ ap (λ (zs : List ℕ). y ∷ zs) (ih f g)
    go ih (inr (inl l)) = absurd (false≢true (sym (rw (lt-ltb x y l) at h)))
    go ih (inr (inr l)) = absurd (false≢true (sym (rw (lt-ltb y x l) at k)))

before_cases : (x y : ℕ) (xs ys : List ℕ) → before (x ∷ xs) (y ∷ ys) ≡ true → (x < y) ⊎ ((x ≡ y) × (before xs ys ≡ true))
before_cases x y xs ys h = go (cases_order x y)
  where
    go : (x ≡ y) ⊎ ((x < y) ⊎ (y < x)) → (x < y) ⊎ ((x ≡ y) × (before xs ys ≡ true))
    go (inl e) = inr (e, rw (le-ltb x y (omega arith), eq-eqb x y e) at h)
    go (inr (inl l)) = inl l
    go (inr (inr l)) = absurd (false≢true (rw (le-ltb x y (omega arith), ne_eqb x y (λ e. omega arith)) at h))

before_less : (x y : ℕ) (xs ys : List ℕ) → x < y → before (x ∷ xs) (y ∷ ys) ≡ true
before_less x y xs ys l = rw (lt-ltb x y l)

before_level : (x y : ℕ) (xs ys : List ℕ) → x ≡ y → before xs ys ≡ true → before (x ∷ xs) (y ∷ ys) ≡ true
before_level x y xs ys e h = rw (le-ltb x y (omega arith), eq-eqb x y e) h

pub before_trans : (a b c : List ℕ) → before a b ≡ true → before b c ≡ true → before a c ≡ true
before_trans [] [] c h k = absurd (false≢true h)
before_trans [] (y ∷ ys) [] h k = absurd (false≢true k)
before_trans [] (y ∷ ys) (z ∷ zs) h k = refl
before_trans (x ∷ xs) [] c h k = absurd (false≢true h)
before_trans (x ∷ xs) (y ∷ ys) [] h k = absurd (false≢true k)
before_trans (x ∷ xs) (y ∷ ys) (z ∷ zs) h k = go (before_trans xs ys zs) (before_cases x y xs ys h) (before_cases y z ys zs k)
  where
    go : (before xs ys ≡ true → before ys zs ≡ true → before xs zs ≡ true) → (x < y) ⊎ ((x ≡ y) × (before xs ys ≡ true)) → (y < z) ⊎ ((y ≡ z) × (before ys zs ≡ true)) → before (x ∷ xs) (z ∷ zs) ≡ true
    go ih (inl l) (inl m) = before_less x z xs zs (omega arith)
    go ih (inl l) (inr m) = before_less x z xs zs (let e = m.0 in omega arith)
    go ih (inr l) (inl m) = before_less x z xs zs (let e = l.0 in omega arith)
    go ih (inr l) (inr m) = before_level x z xs zs (l.0 ∙ m.0) (ih l.1 m.1)

pub before_asym : (a b : List ℕ) → before a b ≡ true → before b a ≡ false
before_asym a b h =
    elim (cases_Bool (before b a)) [
      | inl t ↦ absurd (both_ways (before a a) (before_refl a) (before_trans a b a h t))
      | inr f ↦ f
    ]

-- c is not above b, nor b above a, so c is not above a
pub not_before_trans : (a b c : List ℕ) → before a b ≡ false → before b c ≡ false → before a c ≡ false
not_before_trans a b c h k =
    elim (cases_Bool (before a c)) [
      | inr f ↦ f
      | inl t ↦
          elim (cases_Bool (before b a)) [
            | inl u ↦ absurd (both_ways (before b c) k (before_trans b a c u t))
            | inr u ↦ absurd (both_ways (before b c) k (subst (λ (m : List ℕ). before m c ≡ true) (before_neither a b h u) t))
          ]
    ]
