-- The children of a turn: the least marks above the last ones, and the rows that show them.
use Rattle.std.proofs.Common.{◌≡◌, ℕ, zero, suc, ◌+◌, ◌<◌, ◌≤◌, Bool, true, false, cond, not, ◌&&◌, ◌⊎◌, List, [], ◌∷◌, length, get_or, take, drop, Some, None, filter, Option, sym, refl, ap, ◌∙◌, subst, inl, inr, le_refl, arith}
use Rattle.std.specs.List.{AllByRecursion}
use Rattle.std.proofs.ByRecursion.{kept_by_passes, All-weaker}
use Rattle.std.proofs.lemmas.List.Filters.{length-filter_both}
use Rattle.std.proofs.lemmas.Bool.{cases_Bool, both_ways}
use Rattle.protocol.specs.Machine.{same}
use Rattle.protocol.specs.States.{Row, Child, before, shows, is_shown, least_shown, split, children}
use Rattle.rows.specs.declared.row.Row as code
use Rattle.rows.specs.Views.{row_view, rows_view}
use Rattle.rows.proofs.Runs.{past}
use Rattle.rows.proofs.Standing.{next_row}
use Rattle.rows.specs.Turns.{later, rows_after, child_of, Next, follows, leads}
use Rattle.rows.proofs.Dictionary.{same_true, same_refl, before_refl, before_neither, before_trans, before_asym, not_before_trans}

-- filters

kept_all : {X : Type 0} (xs : List X) → filter (λ x. true) xs ≡ xs
kept_all [] = refl
kept_all (x ∷ xs) = ap (λ ys. x ∷ ys) (kept_all xs)

-- a filter of what a filter keeps is one filter, by any test that agrees with both
kept_twice : {X : Type 0} (p q r : X → Bool) (xs : List X) → AllByRecursion (λ x. (q x && p x) ≡ r x) xs → filter p (filter q xs) ≡ filter r xs
kept_twice p q r [] h = refl
kept_twice p q r (x ∷ xs) h = go (q x) (p x) (r x) h.0 refl (kept_twice p q r xs h.1)
  where
    go : (t u v : Bool) → (t && u) ≡ v → p x ≡ u → filter p (filter q xs) ≡ filter r xs → filter p (cond t (x ∷ filter q xs) (filter q xs)) ≡ cond v (x ∷ filter r xs) (filter r xs)
    go true true v e f ih = rw (f, sym e) (ap (λ ys. x ∷ ys) ih)
    go true false v e f ih = rw (f, sym e) ih
    go false u v e f ih = rw (sym e) ih

all_of : {X : Type 0} (P : X → Type 0) → ((x : X) → P x) → (xs : List X) → AllByRecursion P xs
all_of P h [] = tt
all_of P h (x ∷ xs) = (h x, all_of P h xs)

-- what holds of what a filter keeps holds of each element that passes
all_kept : {X : Type 0} (P : X → Type 0) (p : X → Bool) (xs : List X) → AllByRecursion P (filter p xs) → AllByRecursion (λ x. p x ≡ true → P x) xs
all_kept P p [] h = tt
all_kept P p (x ∷ xs) h = go (p x) refl h (all_kept P p xs)
  where
    go : (t : Bool) → p x ≡ t → AllByRecursion P (cond t (x ∷ filter p xs) (filter p xs)) → (AllByRecursion P (filter p xs) → AllByRecursion (λ x. p x ≡ true → P x) xs) → AllByRecursion (λ x. p x ≡ true → P x) (x ∷ xs)
    go true e h ih = ((λ f. h.0), ih h.1)
    go false e h ih = ((λ f. absurd (both_ways (p x) e f)), ih h)

module _ (n : ℕ) (places : List ℕ) where
  -- the least marks are among those shown, or the first ones
  least_has : (P : List ℕ → Type 0) (m : List ℕ) (rs : List Row) → P m → AllByRecursion (λ r. P (shows n places r)) rs → P (least_shown n places m rs)
  least_has P m [] h k = h
  least_has P m (r ∷ rs) h k =
      least_has P (cond (before (shows n places r) m) (shows n places r) m) rs
      (elim (before (shows n places r) m) as (λ t. P (cond t (shows n places r) m)) [ true ↦ k.0 | false ↦ h ])
      k.1

  -- and none of those comes before them
  pub record Lowest (m : List ℕ) (rs : List Row) (least : List ℕ) : Type 0 where
    pub first : before m least ≡ false
    pub others : AllByRecursion (λ r. before (shows n places r) least ≡ false) rs

  lowest : (m : List ℕ) (rs : List Row) → Lowest m rs (least_shown n places m rs)
  lowest m [] = record { first = before_refl m; others = tt }
  lowest m (r ∷ rs) = go (before (shows n places r) m) refl (lowest (cond (before (shows n places r) m) (shows n places r) m) rs)
    where
      go : (t : Bool) → before (shows n places r) m ≡ t → Lowest (cond (before (shows n places r) m) (shows n places r) m) rs (least_shown n places (cond (before (shows n places r) m) (shows n places r) m) rs) → Lowest m (r ∷ rs) (least_shown n places (cond (before (shows n places r) m) (shows n places r) m) rs)
      go true e ih =
          let least : List ℕ = least_shown n places (cond (before (shows n places r) m) (shows n places r) m) rs in
          let own : before (shows n places r) least ≡ false = subst (λ (t : Bool). before (cond t (shows n places r) m) least ≡ false) e ih.first in
          record {
            first = not_before_trans m (shows n places r) least (before_asym (shows n places r) m e) own;
            others = (own, ih.others);
          }
      go false e ih =
          let least : List ℕ = least_shown n places (cond (before (shows n places r) m) (shows n places r) m) rs in
          let own : before m least ≡ false = subst (λ (t : Bool). before (cond t (shows n places r) m) least ≡ false) e ih.first in
          record {
            first = own;
            others = (not_before_trans (shows n places r) m least e own, ih.others);
          }

  -- some row shows them
  kept_later : {X : Type 0} (test : X → Bool) (x : X) (xs : List X) → length (filter test xs) ≤ length (filter test (x ∷ xs))
  kept_later test x xs =
      elim (test x) as (λ t. length (filter test xs) ≤ length (cond t (x ∷ filter test xs) (filter test xs))) [
        | true ↦ omega arith
        | false ↦ omega arith
      ]

  kept_first : {X : Type 0} (test : X → Bool) (x : X) (xs : List X) → test x ≡ true → 1 ≤ length (filter test (x ∷ xs))
  kept_first test x xs e = rw e (omega arith)

  some_show : (m : List ℕ) (rs : List Row) → (least_shown n places m rs ≡ m) ⊎ (1 ≤ length (filter (is_shown n places (least_shown n places m rs)) rs))
  some_show m [] = inl refl
  some_show m (r ∷ rs) = go (before (shows n places r) m) (some_show (cond (before (shows n places r) m) (shows n places r) m) rs)
    where
      go : (t : Bool) → (least_shown n places (cond t (shows n places r) m) rs ≡ cond t (shows n places r) m) ⊎ (1 ≤ length (filter (is_shown n places (least_shown n places (cond t (shows n places r) m) rs)) rs)) → (least_shown n places (cond t (shows n places r) m) rs ≡ m) ⊎ (1 ≤ length (filter (is_shown n places (least_shown n places (cond t (shows n places r) m) rs)) (r ∷ rs)))
      go true (inl e) = inr (kept_first (is_shown n places (least_shown n places (shows n places r) rs)) r rs (rw e (same_refl (shows n places r))))
      go true (inr h) = inr (let k = kept_later (is_shown n places (least_shown n places (shows n places r) rs)) r rs in omega arith)
      go false (inl e) = inl e
      go false (inr h) = inr (let k = kept_later (is_shown n places (least_shown n places m rs)) r rs in omega arith)

  some_row : (r : Row) (rs : List Row) → 1 ≤ length (filter (is_shown n places (least_shown n places (shows n places r) rs)) (r ∷ rs))
  some_row r rs =
      elim (some_show (shows n places r) rs) [
        | inl e ↦ kept_first (is_shown n places (least_shown n places (shows n places r) rs)) r rs (rw e (same_refl (shows n places r)))
        | inr h ↦ (let k = kept_later (is_shown n places (least_shown n places (shows n places r) rs)) r rs in omega arith)
      ]

  fewer : (r : Row) (rs : List Row) → length (filter (λ x. not (is_shown n places (least_shown n places (shows n places r) rs) x)) (r ∷ rs)) ≤ length rs
  fewer r rs =
      let p : Row → Bool = is_shown n places (least_shown n places (shows n places r) rs) in
      let a = length-filter_both p (λ x. not (p x)) (λ x. refl) (r ∷ rs) in
      let b = some_row r rs in
      omega arith

  -- more rounds than rows make no more children
  enough : (k j : ℕ) (rows : List Row) → length rows ≤ k → length rows ≤ j → split k n places rows ≡ split j n places rows
  enough zero zero rows l m = refl
  enough zero (suc j) [] l m = refl
  enough zero (suc j) (r ∷ rs) l m = absurd (omega arith)
  enough (suc k) zero [] l m = refl
  enough (suc k) zero (r ∷ rs) l m = absurd (omega arith)
  enough (suc k) (suc j) [] l m = refl
  enough (suc k) (suc j) (r ∷ rs) l m =
      let least : List ℕ = least_shown n places (shows n places r) rs in
      let left : List Row = filter (λ x. not (is_shown n places least x)) (r ∷ rs) in
      let small : length left ≤ length rs = fewer r rs in
      ap (λ (cs : List Child). child_of n places least (r ∷ rs) ∷ cs) (enough k j left (omega arith) (omega arith))

  -- marks above the last ones, if any
  abbrev pub after : Option (List ℕ) → List ℕ → Bool
  after None marks = true
  after (Some last) marks = before last marks

  after_up : (o : Option (List ℕ)) (a b : List ℕ) → after o a ≡ true → before a b ≡ true → after o b ≡ true
  after_up None a b h k = refl
  after_up (Some x) a b h k = before_trans x a b h k

  abbrev pub rows_above : Option (List ℕ) → List Row → List Row
  rows_above o rows = filter (λ r. after o (shows n places r)) rows

  -- the least marks are above the last ones, and no row above the last ones shows lower ones
  module _ (o : Option (List ℕ)) (rows : List Row) (r : Row) (rs : List Row) (is : rows_above o rows ≡ r ∷ rs) where
    abbrev least : List ℕ
    least = least_shown n places (shows n places r) rs

    above : after o least ≡ true
    above =
        let h : AllByRecursion (λ x. after o (shows n places x) ≡ true) (r ∷ rs) = subst (AllByRecursion (λ x. after o (shows n places x) ≡ true)) is (kept_by_passes (λ x. after o (shows n places x)) rows) in
        least_has (λ m. after o m ≡ true) (shows n places r) rs h.0 h.1

    low : AllByRecursion (λ x. after o (shows n places x) ≡ true → before (shows n places x) least ≡ false) rows
    low =
        let w : Lowest (shows n places r) rs least = lowest (shows n places r) rs in
        all_kept (λ x. before (shows n places x) least ≡ false) (λ x. after o (shows n places x)) rows
        (subst (AllByRecursion (λ x. before (shows n places x) least ≡ false)) (sym is) (w.first, w.others))

    -- all the rows that show the least marks are above the last ones
    shown_above : (x : Row) → (after o (shows n places x) && is_shown n places least x) ≡ is_shown n places least x
    shown_above x =
        elim (cases_Bool (is_shown n places least x)) [
          | inl t ↦
              let e : shows n places x ≡ least = same_true (shows n places x) least t in
              let a : after o (shows n places x) ≡ true = subst (λ (m : List ℕ). after o m ≡ true) (sym e) above in
              rw a
          | inr f ↦
              elim (cases_Bool (after o (shows n places x))) [
                | inl a ↦ rw a
                | inr a ↦ rw (a, f)
              ]
        ]

    -- and the other rows above the last ones are those above the least
    left_above : (x : Row) → (after o (shows n places x) ≡ true → before (shows n places x) least ≡ false) → (after o (shows n places x) && not (is_shown n places least x)) ≡ before least (shows n places x)
    left_above x h =
        elim (cases_Bool (before least (shows n places x))) [
          | inl t ↦
              let a : after o (shows n places x) ≡ true = after_up o least (shows n places x) above t in
              elim (cases_Bool (is_shown n places least x)) [
                | inl s ↦ absurd (both_ways (before least least) (before_refl least) (subst (λ (m : List ℕ). before least m ≡ true) (same_true (shows n places x) least s) t))
                | inr s ↦ rw (a, s, t)
              ]
          | inr f ↦
              elim (cases_Bool (after o (shows n places x))) [
                | inr a ↦ rw (a, f)
                | inl a ↦
                    let e : shows n places x ≡ least = before_neither (shows n places x) least (h a) f in
                    let s : is_shown n places least x ≡ true = subst (λ (m : List ℕ). same m least ≡ true) (sym e) (same_refl least) in
                    rw (a, s, f)
              ]
        ]

    pub next_child : children n places (rows_above o rows) ≡ child_of n places least rows ∷ children n places (later n places least rows)
    next_child =
        let left : List Row = filter (λ x. not (is_shown n places least x)) (r ∷ rs) in
        let own : filter (is_shown n places least) (r ∷ rs) ≡ filter (is_shown n places least) rows =
        ap (filter (is_shown n places least)) (sym is)
        ∙ kept_twice (is_shown n places least) (λ x. after o (shows n places x)) (is_shown n places least) rows (all_of _ shown_above rows) in
        let others : left ≡ later n places least rows =
        ap (filter (λ x. not (is_shown n places least x))) (sym is)
        ∙ kept_twice (λ x. not (is_shown n places least x)) (λ x. after o (shows n places x)) (λ x. before least (shows n places x)) rows
        (All-weaker (λ x. after o (shows n places x) ≡ true → before (shows n places x) least ≡ false) _ left_above rows low) in
        let one : Child = record { marks = least; rows = filter (is_shown n places least) (r ∷ rs) } in
        ap (children n places) is
        ∙ ap (λ (cs : List Child). one ∷ cs) (enough (length rs) (length left) left (fewer r rs) (le_refl (length left)) ∙ ap (children n places) others)
        ∙ ap (λ (xs : List Row). let c : Child = record { marks = least; rows = xs } in c ∷ children n places (later n places least rows)) own

  -- the least marks above the last ones, row by row
  abbrev pub ahead : Option (List ℕ) → List ℕ → Bool
  ahead None marks = true
  ahead (Some least) marks = before marks least

  abbrev pub pick : Option (List ℕ) → Option (List ℕ) → List Row → Option (List ℕ)
  pick last least [] = least
  pick last least (r ∷ rs) = pick last (cond (after last (shows n places r) && ahead least (shows n places r)) (Some (shows n places r)) least) rs

  abbrev pub chosen : List Row → Option (List ℕ)
  chosen [] = None
  chosen (r ∷ rs) = Some (least_shown n places (shows n places r) rs)

  pick_some : (last : Option (List ℕ)) (m : List ℕ) (rows : List Row) → pick last (Some m) rows ≡ Some (least_shown n places m (rows_above last rows))
  pick_some last m [] = refl
  pick_some last m (r ∷ rs) = go (after last (shows n places r)) (before (shows n places r) m) refl (pick_some last m rs) (pick_some last (shows n places r) rs)
    where
      go : (t u : Bool) → before (shows n places r) m ≡ u → pick last (Some m) rs ≡ Some (least_shown n places m (rows_above last rs)) → pick last (Some (shows n places r)) rs ≡ Some (least_shown n places (shows n places r) (rows_above last rs)) → pick last (cond (t && u) (Some (shows n places r)) (Some m)) rs ≡ Some (least_shown n places m (cond t (r ∷ rows_above last rs) (rows_above last rs)))
      go true true e ih jh = jh ∙ ap (λ (b : Bool). Some (least_shown n places (cond b (shows n places r) m) (rows_above last rs))) (sym e)
      go true false e ih jh = ih ∙ ap (λ (b : Bool). Some (least_shown n places (cond b (shows n places r) m) (rows_above last rs))) (sym e)
      go false u e ih jh = ih

  pick_none : (last : Option (List ℕ)) (rows : List Row) → pick last None rows ≡ chosen (rows_above last rows)
  pick_none last [] = refl
  pick_none last (r ∷ rs) = go (after last (shows n places r)) (pick_none last rs) (pick_some last (shows n places r) rs)
    where
      go : (t : Bool) → pick last None rs ≡ chosen (rows_above last rs) → pick last (Some (shows n places r)) rs ≡ Some (least_shown n places (shows n places r) (rows_above last rs)) → pick last (cond (t && true) (Some (shows n places r)) None) rs ≡ chosen (cond t (r ∷ rows_above last rs) (rows_above last rs))
      go true ih jh = jh
      go false ih jh = ih

  -- the marks that the code holds, as far as there are places
  abbrev pub held : ℕ → Option (List ℕ) → Option (List ℕ)
  held t None = None
  held t (Some m) = Some (take t m)

  pub above_after : (last : Option (List ℕ)) (rows : List Row) → rows_above (held (length places) last) rows ≡ rows_after n places last rows
  above_after None rows = kept_all rows
  above_after (Some m) rows = refl

  some_same : (a b : List ℕ) → Some a ≡ Some b → a ≡ b
  some_same a b e = cc

  pub next_is : (last answer : Option (List ℕ)) (rows : List Row) → held (length places) answer ≡ pick (held (length places) last) None rows → Next n places rows answer (children n places (rows_after n places last rows))
  next_is last answer rows e =
      subst (λ (xs : List Row). Next n places rows answer (children n places xs)) (above_after last rows)
      (go answer (rows_above o rows) refl (e ∙ pick_none o rows))
    where
      o : Option (List ℕ)
      o = held (length places) last

      go : (answer : Option (List ℕ)) (above : List Row) → rows_above o rows ≡ above → held (length places) answer ≡ chosen (rows_above o rows) → Next n places rows answer (children n places (rows_above o rows))
      go None [] is f = ap (children n places) is
      go None (r ∷ rs) is f = absurd (let g : None ≡ Some (least_shown n places (shows n places r) rs) = f ∙ ap chosen is in let z : ◌≡◌ {A = ℕ} 0 1 = cc in omega arith)
      go (Some m) [] is f = absurd (let g : Some (take (length places) m) ≡ None = f ∙ ap chosen is in let z : ◌≡◌ {A = ℕ} 0 1 = cc in omega arith)
      go (Some m) (r ∷ rs) is f =
          let g : take (length places) m ≡ least_shown n places (shows n places r) rs = some_same (take (length places) m) (least_shown n places (shows n places r) rs) (f ∙ ap chosen is) in
          subst (λ (marks : List ℕ). children n places (rows_above o rows) ≡ child_of n places marks rows ∷ children n places (later n places marks rows)) (sym g)
          (next_child o rows r rs is)

  -- one row more
  pub pick_more : (last least : Option (List ℕ)) (marks : List ℕ) (r : Row) (rs : List Row) → take (length places) marks ≡ shows n places r → pick (held (length places) last) (held (length places) (cond (follows last marks (length places) && leads least marks (length places)) (Some marks) least)) rs ≡ pick (held (length places) last) (held (length places) least) (r ∷ rs)
  pick_more last least marks r rs e =
      ap (λ (o : Option (List ℕ)). pick (held t last) o rs) (kept ∙ tests)
    where
      t : ℕ
      t = length places

      kept : held t (cond (follows last marks t && leads least marks t) (Some marks) least) ≡ cond (follows last marks t && leads least marks t) (Some (shows n places r)) (held t least)
      kept = elim (follows last marks t && leads least marks t) as (λ b. held t (cond b (Some marks) least) ≡ cond b (Some (shows n places r)) (held t least)) [ true ↦ ap (λ (m : List ℕ). Some m) e | false ↦ refl ]

      is_after : (last : Option (List ℕ)) → follows last marks t ≡ after (held t last) (shows n places r)
      is_after None = refl
      is_after (Some m) = ap (before (take t m)) e

      is_ahead : (least : Option (List ℕ)) → leads least marks t ≡ ahead (held t least) (shows n places r)
      is_ahead None = refl
      is_ahead (Some m) = ap (λ (x : List ℕ). before x (take t m)) e

      tests : cond (follows last marks t && leads least marks t) (Some (shows n places r)) (held t least) ≡ cond (after (held t last) (shows n places r) && ahead (held t least) (shows n places r)) (Some (shows n places r)) (held t least)
      tests =
          ap (λ (b : Bool). cond (b && leads least marks t) (Some (shows n places r)) (held t least)) (is_after last)
          ∙ ap (λ (b : Bool). cond (after (held t last) (shows n places r) && b) (Some (shows n places r)) (held t least)) (is_ahead least)

  -- one turn of the loop
  pub picked : (last least new : Option (List ℕ)) (marks : List ℕ) (rows : List code.Row) (i : ℕ) → i < length rows → take (length places) marks ≡ shows n places (row_view (get_or rows i past)) → new ≡ cond (follows last marks (length places) && leads least marks (length places)) (Some marks) least → pick (held (length places) last) (held (length places) new) (rows_view (drop (i + 1) rows)) ≡ pick (held (length places) last) (held (length places) least) (rows_view (drop i rows))
  picked last least new marks rows i l e f =
      ap (λ (o : Option (List ℕ)). pick (held (length places) last) (held (length places) o) (rows_view (drop (i + 1) rows))) f
      ∙ pick_more last least marks (row_view (get_or rows i past)) (rows_view (drop (i + 1) rows)) e
      ∙ sym (ap (pick (held (length places) last) (held (length places) least)) (next_row rows i l))
