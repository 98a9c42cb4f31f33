-- Rules of lists, byte by byte and as a whole.
use Rattle.std.proofs.Common.{◌≡◌, ℕ, zero, suc, ◌-◌, ◌<◌, ◌≤◌, true, false, eqb, leb, List, [], ◌∷◌, length, get_or, take, sym, refl, ap, ◌∙◌, subst, ⊎_elim, arith}
use Rattle.std.proofs.lemmas.List.{get_or-take, length-take-le}
use Rattle.std.proofs.lemmas.Bool.{and_parts, and_from, cases_Bool, le-leb, lt-ltb, leb-true, ltb-true, eq-eqb, not-true, not_from_false, or_left, or_right, both_ways}
use Rattle.cards.specs.Lists.{member, distinct}
use Rattle.shuffles.specs.Positions.{position_below, distinct_range, distinct_apart}
use Rattle.cards.specs.Lists.{position}
use Rattle.format.specs.Kinds.{from_to, distinct_rule, ascending_rule}

pub in_range : (low high b : ℕ) → from_to low high b ≡ true → (low ≤ b) × (b ≤ high)
in_range low high b e =
    let p = and_parts (leb low b) (leb b high) e in (leb-true low b p.0, leb-true b high p.1)

pub from_range : (low high b : ℕ) → low ≤ b → b ≤ high → from_to low high b ≡ true
from_range low high b l h = and_from (leb low b) (leb b high) (le-leb low b l) (le-leb b high h)

-- a number stands at an index
pub member_index : (x : ℕ) (xs : List ℕ) → member x xs ≡ true → (j : ℕ) × ((j < length xs) × (get_or xs j 0 ≡ x))
member_index x xs e = let p = position_below x xs e in (position x xs, (p.0, p.1))

pub index_member : (x : ℕ) (xs : List ℕ) (j : ℕ) → j < length xs → get_or xs j 0 ≡ x → member x xs ≡ true
index_member x [] j l e = absurd (omega arith)
index_member x (y ∷ ys) zero l e = or_left (eqb y x) (member x ys) (eq-eqb y x e)
index_member x (y ∷ ys) (suc j) l e = or_right (eqb y x) (member x ys) (index_member x ys j (omega arith) e)

pub not_before : (x : ℕ) (xs : List ℕ) (i : ℕ) → i ≤ length xs → ((j : ℕ) → j < i → get_or xs j 0 ≡ x → ⊥) → member x (take i xs) ≡ false
not_before x xs i l f =
    ⊎_elim
    (λ e. let p = member_index x (take i xs) e in
    let k : p.0 < i = let q = length-take-le i xs l in omega (arith, p.1.0, q) in
    absurd (f p.0 k (sym (get_or-take i xs p.0 0 k) ∙ p.1.1)))
    (λ e. e)
    (cases_Bool (member x (take i xs)))

pub before_not : (xs : List ℕ) (x i j : ℕ) → i ≤ length xs → member x (take i xs) ≡ false → j < i → get_or xs j 0 ≡ x → ⊥
before_not xs x i j l f h e =
    both_ways (member x (take i xs)) f
    (index_member x (take i xs) j (rw (length-take-le i xs l) h) (get_or-take i xs j 0 h ∙ e))

-- in range and none twice, at each index
pub distinct_each : (low high : ℕ) (xs : List ℕ) → distinct low high xs ≡ true
    → (i : ℕ) → i < length xs → distinct_rule low high (take i xs) (get_or xs i 0) ≡ true
distinct_each low high xs e i l =
    let r = distinct_range low high xs e i l in
    let m : member (get_or xs i 0) (take i xs) ≡ false = not_before (get_or xs i 0) xs i (omega arith) (λ j h q.
    let z = distinct_apart low high xs e j i (omega arith) l q in omega arith) in
    and_from _ _ (from_range low high (get_or xs i 0) r.0 r.1) (not_from_false _ m)

apart_distinct : (low high : ℕ) (xs : List ℕ) → ((i : ℕ) → i < length xs → from_to low high (get_or xs i 0) ≡ true)
    → ((i j : ℕ) → i < j → j < length xs → get_or xs i 0 ≡ get_or xs j 0 → ⊥) → distinct low high xs ≡ true
apart_distinct low high [] r a = refl
apart_distinct low high (x ∷ xs) r a =
    let m : member x xs ≡ false = ⊎_elim
    (λ e. let p = member_index x xs e in absurd (a 0 (suc p.0) (omega arith) (omega (arith, p.1.0)) (sym p.1.1)))
    (λ e. e) (cases_Bool (member x xs)) in
    and_from _ _ (r 0 (omega arith))
    (and_from _ _ (not_from_false _ m)
    (apart_distinct low high xs (λ i h. r (suc i) (omega arith)) (λ i j h k q. a (suc i) (suc j) (omega arith) (omega arith) q)))

pub each_distinct : (low high n : ℕ) (xs : List ℕ) → length xs ≡ n → ((i : ℕ) → i < n → distinct_rule low high (take i xs) (get_or xs i 0) ≡ true)
    → distinct low high xs ≡ true
each_distinct low high n xs e f =
    apart_distinct low high xs
    (λ i h. (and_parts _ _ (f i (omega arith))).0)
    (λ i j h k q. before_not xs (get_or xs j 0) j i (omega arith) (not-true _ (and_parts _ _ (f j (omega arith))).1) h q)

-- ascending, at each index
pub ascending_each : (n : ℕ) (xs : List ℕ) → ((i : ℕ) → i < length xs → 1 ≤ get_or xs i 0) → ((i : ℕ) → i < length xs → get_or xs i 0 ≤ n)
    → ((i : ℕ) → suc i < length xs → get_or xs i 0 < get_or xs (suc i) 0)
    → (i : ℕ) → i < length xs → ascending_rule n (take i xs) (get_or xs i 0) ≡ true
ascending_each n xs p q a zero l = and_from _ _ (lt-ltb 0 (get_or xs 0 0) (p 0 l)) (le-leb _ n (q 0 l))
ascending_each n xs p q a (suc i) l =
    let m : length (take (suc i) xs) ≡ suc i = length-take-le (suc i) xs (omega arith) in
    let k : length (take (suc i) xs) - 1 ≡ i = omega arith in
    let g : get_or (take (suc i) xs) (length (take (suc i) xs) - 1) 0 ≡ get_or xs i 0
    = ap (λ j. get_or (take (suc i) xs) j 0) k ∙ get_or-take (suc i) xs i 0 (omega arith) in
    and_from _ _ (lt-ltb _ _ (rw g (a i l))) (le-leb _ n (q (suc i) l))

module _ (n t : ℕ) (xs : List ℕ) (e : length xs ≡ t) (f : (i : ℕ) → i < t → ascending_rule n (take i xs) (get_or xs i 0) ≡ true) where
  pub each_inside : (i : ℕ) → i < length xs → get_or xs i 0 ≤ n
  each_inside i l = leb-true _ n (and_parts _ _ (f i (omega arith))).1

  pub each_positive : (i : ℕ) → i < length xs → 1 ≤ get_or xs i 0
  each_positive i l =
      let p : get_or (take i xs) (length (take i xs) - 1) 0 < get_or xs i 0 = ltb-true _ _ (and_parts _ _ (f i (omega arith))).0 in
      omega arith

  pub each_ascends : (i : ℕ) → suc i < length xs → get_or xs i 0 < get_or xs (suc i) 0
  each_ascends i l =
      let m : length (take (suc i) xs) ≡ suc i = length-take-le (suc i) xs (omega arith) in
      let k : length (take (suc i) xs) - 1 ≡ i = omega arith in
      let g : get_or (take (suc i) xs) (length (take (suc i) xs) - 1) 0 ≡ get_or xs i 0
      = ap (λ j. get_or (take (suc i) xs) j 0) k ∙ get_or-take (suc i) xs i 0 (omega arith) in
      let p = ltb-true _ _ (and_parts _ _ (f (suc i) (omega arith))).0 in
      subst (λ x. x < get_or xs (suc i) 0) g p
