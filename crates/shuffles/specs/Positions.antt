-- Where a number stands in a list, and lists without repeats.
use Rattle.std.specs.Prelude.{◌≡◌, ℕ, zero, suc, ◌+◌, ◌<◌, ◌≤◌, Bool, true, false, cond, not, ◌&&◌, Option, Some, None, MatchOption, List, [], ◌∷◌, length, drop, ◌==◌, ◌≢◌, nat_eq, nat_le, nat_lt, slice_index, refl}
use Rattle.std.proofs.Common.{sym, ap, subst, ◌∙◌, ⊎_elim, arith, add-one, one-add}
use Rattle.std.proofs.lemmas.Bool.{cases_Bool, and_parts, and_from, leb-true, le-leb, eqb-true, eq-eqb, ne_eqb, cond-true, cond-false, or_cases, or_left, or_right, or_parts, not-true, both_ways, and_left, and_right, lt-leb, lt-ltb, le-ltb, ltb-true}
use Rattle.std.proofs.lemmas.List.{at_drop_more, at_drop_all}
use Rattle.std.proofs.lemmas.List.Recursion.{is_position_or_len}
use Rattle.std.specs.List.{position_or_len, position as first_position}
use Rattle.cards.specs.Lists.{member, distinct, position}

pub position_here : (x : ℕ) (xs : List ℕ) (i : ℕ) → i < length xs → slice_index xs i ≡ x → position x (drop i xs) ≡ 0
position_here x xs i h e = at_drop_more (position x) xs i 0 h ∙ cond-true _ _ _ (eq-eqb _ _ e)

pub position_later : (x : ℕ) (xs : List ℕ) (i : ℕ) → i < length xs → (slice_index xs i ≢ x) → position x (drop i xs) ≡ position x (drop (i + 1) xs) + 1
position_later x xs i h ne = at_drop_more (position x) xs i 0 h ∙ cond-false _ _ _ (ne_eqb _ _ ne) ∙ sym (add-one _)

pub position_end : (x : ℕ) (xs : List ℕ) (i : ℕ) → length xs ≤ i → position x (drop i xs) ≡ 0
position_end x xs i h = at_drop_all (position x) xs i h

-- a number that stands in the list stands at its position
pub position_below : (x : ℕ) (xs : List ℕ) → member x xs ≡ true → (position x xs < length xs) × (slice_index xs (position x xs) ≡ x)
position_below x [] h = absurd (both_ways false refl h)
position_below x (y ∷ ys) h =
    ⊎_elim
    (λ (e : nat_eq y x ≡ true).
    subst (λ (t : Bool). (cond t 0 (suc (position x ys)) < suc (length ys)) × (slice_index (y ∷ ys) (cond t 0 (suc (position x ys))) ≡ x))
    (sym e) (omega arith, eqb-true y x e))
    (λ (e : nat_eq y x ≡ false).
    let m : member x ys ≡ true = ⊎_elim (λ a. absurd (both_ways _ e a)) (λ b. b) (or_cases _ _ h) in
    let ih = position_below x ys m in
    subst (λ (t : Bool). (cond t 0 (suc (position x ys)) < suc (length ys)) × (slice_index (y ∷ ys) (cond t 0 (suc (position x ys))) ≡ x))
    (sym e) (omega (arith, ih.0), ih.1))
    (cases_Bool (y == x))

pub position_out : (x : ℕ) (xs : List ℕ) → member x xs ≡ false → position x xs ≡ length xs
position_out x [] h = refl
position_out x (y ∷ ys) h =
    let p = or_parts _ _ h in cond-false _ _ _ p.0 ∙ ap suc (position_out x ys p.1)

pub member_getD : (xs : List ℕ) (i : ℕ) → i < length xs → member (slice_index xs i) xs ≡ true
member_getD [] i h = absurd (omega arith)
member_getD (y ∷ ys) zero h = or_left _ _ (eq-eqb y y refl)
member_getD (y ∷ ys) (suc i) h = or_right _ _ (member_getD ys i (omega arith))

-- what the test of distinct numbers says
pub distinct_parts : (low high x : ℕ) (xs : List ℕ) → distinct low high (x ∷ xs) ≡ true → ((low ≤ x) × (x ≤ high)) × ((member x xs ≡ false) × (distinct low high xs ≡ true))
distinct_parts low high x xs h =
    let p = and_parts _ _ h in
    let q = and_parts _ _ p.0 in
    let r = and_parts _ _ p.1 in
    ((leb-true low x q.0, leb-true x high q.1), (not-true _ r.0, r.1))

pub distinct_range : (low high : ℕ) (xs : List ℕ) → distinct low high xs ≡ true → (i : ℕ) → i < length xs → (low ≤ slice_index xs i) × (slice_index xs i ≤ high)
distinct_range low high [] d i h = absurd (omega arith)
distinct_range low high (x ∷ xs) d zero h = (distinct_parts low high x xs d).0
distinct_range low high (x ∷ xs) d (suc i) h = distinct_range low high xs (distinct_parts low high x xs d).1.1 i (omega arith)

pub distinct_apart : (low high : ℕ) (xs : List ℕ) → distinct low high xs ≡ true → (i j : ℕ) → i < length xs → j < length xs → slice_index xs i ≡ slice_index xs j → i ≡ j
distinct_apart low high [] d i j hi hj e = absurd (omega arith)
distinct_apart low high (x ∷ xs) d zero zero hi hj e = refl
distinct_apart low high (x ∷ xs) d zero (suc j) hi hj e =
    absurd (both_ways _ (distinct_parts low high x xs d).1.0 (ap (λ (y : ℕ). member y xs) e ∙ member_getD xs j (omega arith)))
distinct_apart low high (x ∷ xs) d (suc i) zero hi hj e =
    absurd (both_ways _ (distinct_parts low high x xs d).1.0 (ap (λ (y : ℕ). member y xs) (sym e) ∙ member_getD xs i (omega arith)))
distinct_apart low high (x ∷ xs) d (suc i) (suc j) hi hj e =
    ap suc (distinct_apart low high xs (distinct_parts low high x xs d).1.1 i j (omega arith) (omega arith) e)

pub member_is : (x : ℕ) (xs : List ℕ) → member x xs ≡ nat_lt (position x xs) (length xs)
member_is x xs =
    ⊎_elim
    (λ e. e ∙ sym (lt-ltb _ _ (position_below x xs e).0))
    (λ e. e ∙ sym (le-ltb _ _ (omega (arith, position_out x xs e))))
    (cases_Bool (member x xs))

-- the first position by a test is the position, where there is one
pub position_found : (n : ℕ) (xs : List ℕ) (r : Option ℕ) → r ≡ first_position (λ x. x == n) xs → MatchOption r (member n xs ≡ false) (λ i. (i ≡ position n xs) × (i < length xs))
position_found n xs r e =
    let is : position n xs ≡ position_or_len (λ x. x == n) xs = is_position_or_len (position n) (λ x. x == n) refl (λ x ys. ap (cond (x == n) 0) (sym (one-add (position n ys)))) xs in
    let chosen : r ≡ cond (nat_lt (position n xs) (length xs)) (Some (position n xs)) None =
    e ∙ ap (λ (k : ℕ). cond (nat_lt k (length xs)) (Some k) None) (sym is) in
    ⊎_elim
    (λ (h : nat_lt (position n xs) (length xs) ≡ true).
    subst (λ (o : Option ℕ). MatchOption o (member n xs ≡ false) (λ i. (i ≡ position n xs) × (i < length xs)))
    (sym (chosen ∙ cond-true _ _ _ h)) (refl, ltb-true _ _ h))
    (λ (h : nat_lt (position n xs) (length xs) ≡ false).
    subst (λ (o : Option ℕ). MatchOption o (member n xs ≡ false) (λ i. (i ≡ position n xs) × (i < length xs)))
    (sym (chosen ∙ cond-false _ _ _ h)) (member_is n xs ∙ h))
    (cases_Bool (nat_lt (position n xs) (length xs)))

-- the test of the numbers from i on, by its parts
pub distinct_step : (low high : ℕ) (xs : List ℕ) (i : ℕ) → i < length xs → distinct low high (drop i xs) ≡ ((nat_le low (slice_index xs i) && nat_le (slice_index xs i) high) && (not (member (slice_index xs i) (drop (i + 1) xs)) && distinct low high (drop (i + 1) xs)))
distinct_step low high xs i h = at_drop_more (distinct low high) xs i 0 h

pub distinct_end : (low high : ℕ) (xs : List ℕ) (i : ℕ) → length xs ≤ i → distinct low high (drop i xs) ≡ true
distinct_end low high xs i h = at_drop_all (distinct low high) xs i h

pub distinct_low : (low high : ℕ) (xs : List ℕ) (i : ℕ) → i < length xs → slice_index xs i < low → distinct low high (drop i xs) ≡ false
distinct_low low high xs i h lt = distinct_step low high xs i h ∙ and_left _ _ (and_left _ _ (lt-leb _ _ lt))

pub distinct_high : (low high : ℕ) (xs : List ℕ) (i : ℕ) → i < length xs → high < slice_index xs i → distinct low high (drop i xs) ≡ false
distinct_high low high xs i h lt = distinct_step low high xs i h ∙ and_left _ _ (and_right _ _ (lt-leb _ _ lt))

pub distinct_again : (low high : ℕ) (xs : List ℕ) (i : ℕ) → i < length xs → member (slice_index xs i) (drop (i + 1) xs) ≡ true → distinct low high (drop i xs) ≡ false
distinct_again low high xs i h m = distinct_step low high xs i h ∙ and_right _ _ (and_left _ _ (ap not m))

pub distinct_more : (low high : ℕ) (xs : List ℕ) (i : ℕ) → i < length xs → low ≤ slice_index xs i → slice_index xs i ≤ high → member (slice_index xs i) (drop (i + 1) xs) ≡ false → distinct low high (drop i xs) ≡ distinct low high (drop (i + 1) xs)
distinct_more low high xs i h a b m =
    distinct_step low high xs i h
    ∙ ap (λ (t : Bool). t && (not (member (slice_index xs i) (drop (i + 1) xs)) && distinct low high (drop (i + 1) xs))) (and_from _ _ (le-leb _ _ a) (le-leb _ _ b))
    ∙ ap (λ (t : Bool). not t && distinct low high (drop (i + 1) xs)) m
