-- The children of a turn.
use Rattle.std.proofs.Common.{◌≡◌, ℕ, zero, suc, ◌+◌, ◌≤◌, Bool, true, false, cond, not, ◌&&◌, eqb, ltb, List, [], ◌∷◌, length, sum_by, filter, sym, refl, ap, ◌∙◌, inl, inr, le_refl, arith, ltb-true, le-ltb, lt-ltb, eq-eqb, eqb-true}
use Rattle.std.specs.List.{AllByRecursion}
use Rattle.std.proofs.ByRecursion.{all_kept_by, kept_by_passes}
use Rattle.std.proofs.lemmas.List.Sums.{sum_by-cons}
use Rattle.std.proofs.lemmas.Bool.{false≢true, cases_order, and_parts, and_from, or_cases, or_parts, or_left, or_right, not-true, not_from_false}
use Rattle.protocol.specs.Machine.{same}
use Rattle.protocol.specs.States.{Row, shows, is_shown, before, least_shown, Child, split, children, State}
use Rattle.protocol.specs.Promises.{MarksAfter, MarksAscend, TurnsTo}
use Rattle.protocol.proofs.Same.{same_true, same_refl, false_from}
use Rattle.protocol.proofs.Weighed.{length_parts, some_kept, fewer_left}
use Rattle.protocol.proofs.Nodes.{marks_keep}
use Rattle.protocol.proofs.Good.{states_children}

-- dictionary order

before_trans : (a b c : List ℕ) → before a b ≡ true → before b c ≡ true → before a c ≡ true
before_trans [] [] c h k = absurd (false≢true h)
before_trans [] (y ∷ ys) [] h k = absurd (false≢true k)
before_trans [] (y ∷ ys) (z ∷ zs) h k = refl
before_trans (x ∷ xs) [] c h k = absurd (false≢true h)
before_trans (x ∷ xs) (y ∷ ys) [] h k = absurd (false≢true k)
before_trans (x ∷ xs) (y ∷ ys) (z ∷ zs) h k =
    elim (or_cases (ltb x y) (eqb x y && before xs ys) h) [
      | inl l ↦
          let xy = ltb-true x y l in
          elim (or_cases (ltb y z) (eqb y z && before ys zs) k) [
            | inl m ↦ let yz = ltb-true y z m in or_left (ltb x z) (eqb x z && before xs zs) (lt-ltb x z (omega arith))
            | inr m ↦
                let yz = eqb-true y z (and_parts (eqb y z) (before ys zs) m).0 in
                or_left (ltb x z) (eqb x z && before xs zs) (lt-ltb x z (omega arith))
          ]
      | inr l ↦
          let p = and_parts (eqb x y) (before xs ys) l in
          let xy = eqb-true x y p.0 in
          elim (or_cases (ltb y z) (eqb y z && before ys zs) k) [
            | inl m ↦ let yz = ltb-true y z m in or_left (ltb x z) (eqb x z && before xs zs) (lt-ltb x z (omega arith))
            | inr m ↦
                let q = and_parts (eqb y z) (before ys zs) m in
                let yz = eqb-true y z q.0 in
                or_right (ltb x z) (eqb x z && before xs zs)
                (and_from (eqb x z) (before xs zs) (eq-eqb x z (xy ∙ yz)) (before_trans xs ys zs p.1 q.1))
          ]
    ]

-- of two lists one is before the other, or they are the same
before_total : (a b : List ℕ) → before a b ≡ false → (a ≡ b → ⊥) → before b a ≡ true
before_total [] [] h ne = absurd (ne refl)
before_total [] (y ∷ ys) h ne = absurd (false≢true (sym h))
before_total (x ∷ xs) [] h ne = refl
before_total (x ∷ xs) (y ∷ ys) h ne =
    let p = or_parts (ltb x y) (eqb x y && before xs ys) h in
    elim (cases_order x y) [
      | inl e ↦
          or_right (ltb y x) (eqb y x && before ys xs)
          (and_from (eqb y x) (before ys xs) (eq-eqb y x (sym e))
          (before_total xs ys
          (sym (ap (λ t. t && before xs ys) (eq-eqb x y e)) ∙ p.1)
          (λ f. ne (let g = f in cc))))
      | inr o ↦
          elim o [
            | inl l ↦ absurd (false≢true (sym p.0 ∙ lt-ltb x y l))
            | inr l ↦ or_left (ltb y x) (eqb y x && before ys xs) (lt-ltb y x l)
          ]
    ]

-- no row shows marks before the least

not_after : (a b c : List ℕ) → before a c ≡ false → before b c ≡ true → before a b ≡ false
not_after a b c h k = false_from (before a b) (λ e. false≢true (sym h ∙ before_trans a b c e k))

module _ (n : ℕ) (places : List ℕ) where
  least_not_after : (marks ms : List ℕ) (rs : List Row) → before ms marks ≡ false → before ms (least_shown n places marks rs) ≡ false
  least_not_after marks ms [] h = h
  least_not_after marks ms (r ∷ rs) h =
      least_not_after (cond (before (shows n places r) marks) (shows n places r) marks) ms rs (go (before (shows n places r) marks) refl)
    where
      go : (t : Bool) → before (shows n places r) marks ≡ t → before ms (cond t (shows n places r) marks) ≡ false
      go true e = not_after ms (shows n places r) marks h e
      go false e = h

  before_itself : (ms : List ℕ) → before ms ms ≡ false
  before_itself [] = refl
  before_itself (x ∷ xs) = rw (le-ltb x x (le_refl x), eq-eqb x x refl) (before_itself xs)

  least_first : (marks : List ℕ) (rs : List Row) → AllByRecursion (λ r. before (shows n places r) (least_shown n places marks rs) ≡ false) rs
  least_first marks [] = tt
  least_first marks (r ∷ rs) = (
    least_not_after (cond (before (shows n places r) marks) (shows n places r) marks) (shows n places r) rs
        (go (before (shows n places r) marks) refl),
    least_first (cond (before (shows n places r) marks) (shows n places r) marks) rs,
  )
    where
      go : (t : Bool) → before (shows n places r) marks ≡ t → before (shows n places r) (cond t (shows n places r) marks) ≡ false
      go true e = before_itself (shows n places r)
      go false e = e

  abbrev least : Row → List Row → List ℕ
  least r rs = least_shown n places (shows n places r) rs

  abbrev left : Row → List Row → List Row
  left r rs = filter (λ x. not (is_shown n places (least r rs) x)) (r ∷ rs)

  -- the rows that are left show later marks
  left_later : (r : Row) (rs : List Row) → AllByRecursion (λ x. before (least r rs) (shows n places x) ≡ true) (left r rs)
  left_later r rs =
      both (left r rs)
      (all_kept_by (λ x. not (is_shown n places (least r rs) x)) (λ x. before (shows n places x) (least r rs) ≡ false) (r ∷ rs)
      (least_not_after (shows n places r) (shows n places r) rs (before_itself (shows n places r)), least_first (shows n places r) rs))
      (kept_by_passes (λ x. not (is_shown n places (least r rs) x)) (r ∷ rs))
    where
      both : (xs : List Row) → AllByRecursion (λ x. before (shows n places x) (least r rs) ≡ false) xs → AllByRecursion (λ x. not (is_shown n places (least r rs) x) ≡ true) xs → AllByRecursion (λ x. before (least r rs) (shows n places x) ≡ true) xs
      both [] a c = tt
      both (x ∷ xs) a c = (
        before_total (shows n places x) (least r rs) a.0
            (λ e.
            let f : same (shows n places x) (least r rs) ≡ true = rw e (same_refl (least r rs)) in
            false≢true (sym (not-true (same (shows n places x) (least r rs)) c.0) ∙ f)),
        both xs a.1 c.1,
      )

  later_marks : (k : ℕ) (r : Row) (rs : List Row) → AllByRecursion (λ c. before (least r rs) c.marks ≡ true) (split k n places (left r rs))
  later_marks k r rs = marks_keep n places (λ ms. before (least r rs) ms ≡ true) k (left r rs) (left_later r rs)

  after_all : (marks : List ℕ) (cs : List Child) → AllByRecursion (λ c. before marks c.marks ≡ true) cs → MarksAscend cs → MarksAfter marks cs
  after_all marks [] a m = tt
  after_all marks (c ∷ cs) a m = (a.0, m)

  marks_ascend : (k : ℕ) (rows : List Row) → MarksAscend (split k n places rows)
  marks_ascend zero rows = tt
  marks_ascend (suc k) [] = tt
  marks_ascend (suc k) (r ∷ rs) =
      after_all (least r rs) (split k n places (left r rs)) (later_marks k r rs) (marks_ascend k (left r rs))

  -- a filter of a filter
  kept_kept : (p q : Row → Bool) → ((x : Row) → p x ≡ true → q x ≡ true) → (xs : List Row) → filter p (filter q xs) ≡ filter p xs
  kept_kept p q h [] = refl
  kept_kept p q h (x ∷ xs) = go (q x) refl (p x) refl (kept_kept p q h xs)
    where
      go : (t : Bool) → q x ≡ t → (u : Bool) → p x ≡ u → filter p (filter q xs) ≡ filter p xs → filter p (cond t (x ∷ filter q xs) (filter q xs)) ≡ cond u (x ∷ filter p xs) (filter p xs)
      go true e true f ih =
          ap (λ b. cond b (x ∷ filter p (filter q xs)) (filter p (filter q xs))) f ∙ ap (λ (l : List Row). x ∷ l) ih
      go true e false f ih = ap (λ b. cond b (x ∷ filter p (filter q xs)) (filter p (filter q xs))) f ∙ ih
      go false e true f ih = absurd (false≢true (sym e ∙ h x f))
      go false e false f ih = ih

  just_rows : (k : ℕ) (rows : List Row) → AllByRecursion (λ c. c.rows ≡ filter (is_shown n places c.marks) rows) (split k n places rows)
  just_rows zero rows = tt
  just_rows (suc k) [] = tt
  just_rows (suc k) (r ∷ rs) =
      (refl, widen (split k n places (left r rs)) (just_rows k (left r rs)) (later_marks k r rs))
    where
      widen : (cs : List Child) → AllByRecursion (λ c. c.rows ≡ filter (is_shown n places c.marks) (left r rs)) cs → AllByRecursion (λ c. before (least r rs) c.marks ≡ true) cs → AllByRecursion (λ c. c.rows ≡ filter (is_shown n places c.marks) (r ∷ rs)) cs
      widen [] a b = tt
      widen (c ∷ cs) a b = (
        a.0
            ∙ kept_kept (is_shown n places c.marks) (λ x. not (is_shown n places (least r rs) x))
            (λ x e.
            not_from_false (is_shown n places (least r rs) x)
            (false_from (is_shown n places (least r rs) x)
            (λ f.
            let g : least r rs ≡ c.marks = sym (same_true (shows n places x) (least r rs) f) ∙ same_true (shows n places x) c.marks e in
            false≢true (sym (before_itself c.marks) ∙ ap (λ m. before m c.marks) (sym g) ∙ b.0))))
            (r ∷ rs),
        widen cs a.1 b.1,
      )

  some_rows : (k : ℕ) (rows : List Row) → AllByRecursion (λ c. 1 ≤ length c.rows) (split k n places rows)
  some_rows zero rows = tt
  some_rows (suc k) [] = tt
  some_rows (suc k) (r ∷ rs) = (some_kept n places r rs, some_rows k (left r rs))

  all_rows : (k : ℕ) (rows : List Row) → length rows ≤ k → sum_by (λ c. length c.rows) (split k n places rows) ≡ length rows
  all_rows zero [] h = refl
  all_rows zero (r ∷ rs) h = absurd (omega arith)
  all_rows (suc k) [] h = refl
  all_rows (suc k) (r ∷ rs) h =
      let few = fewer_left n places r rs in
      let ih = all_rows k (left r rs) (omega arith) in
      let parts = length_parts (is_shown n places (least r rs)) (r ∷ rs) in
      let child : Child = record { marks = least r rs; rows = filter (is_shown n places (least r rs)) (r ∷ rs) } in
      sum_by-cons (λ c. length c.rows) child (split k n places (left r rs))
      ∙ ap (λ v. length (filter (is_shown n places (least r rs)) (r ∷ rs)) + v) ih ∙ parts

  pub turns_to : (rows : List Row) → State rows → TurnsTo n places rows (children n places rows)
  turns_to rows s =
      record {
        states = states_children n places (length rows) rows s;
        ascend = marks_ascend (length rows) rows;
        just = just_rows (length rows) rows;
        some = some_rows (length rows) rows;
        whole = all_rows (length rows) rows (le_refl (length rows));
      }
