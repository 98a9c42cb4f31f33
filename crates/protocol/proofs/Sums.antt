-- Laws of sums over numbers and lists, and of counting lists.
use Rattle.std.proofs.Common.{◌≡◌, ℕ, zero, suc, ◌+◌, ◌-◌, ◌*◌, ◌<◌, ◌≤◌, Bool, true, false, cond, ltb, List, [], ◌∷◌, sum_by, sym, refl, ap, ◌∙◌, inl, inr, mul-zero, mul-one, mul-add, arith, le-ltb, lt-ltb}
use mathlib.Core.Path.{fun_ext}
use Rattle.std.specs.List.{AllByRecursion}
use Rattle.std.proofs.lemmas.List.Sums.{sum_by-cons}
use Rattle.std.proofs.lemmas.Bool.{cases_lt}
use Rattle.protocol.specs.Machine.{sum_below, count, counts, one_if}

pub sum_below_ext : (n : ℕ) (f g : ℕ → ℕ) → ((d : ℕ) → d < n → f d ≡ g d) → sum_below n f ≡ sum_below n g
unfolding sum_below
sum_below_ext zero f g h = refl
sum_below_ext (suc n) f g h =
    let ih : sum_below n f ≡ sum_below n g = sum_below_ext n f g (λ d l. h d (omega arith)) in
    let e : f n ≡ g n = h n (omega arith) in
    cc

pub sum_below_add : (n : ℕ) (f g : ℕ → ℕ) → sum_below n (λ d. f d + g d) ≡ sum_below n f + sum_below n g
unfolding sum_below
sum_below_add zero f g = refl
sum_below_add (suc n) f g = let ih = sum_below_add n f g in omega arith

pub sum_below_mul : (n k : ℕ) (f : ℕ → ℕ) → k * sum_below n f ≡ sum_below n (λ d. k * f d)
unfolding sum_below
sum_below_mul zero k f = mul-zero k
sum_below_mul (suc n) k f = mul-add k (sum_below n f) (f n) ∙ ap (λ x. x + k * f n) (sum_below_mul n k f)

pub sum_below_const : (n c : ℕ) → sum_below n (λ d. c) ≡ n * c
unfolding sum_below
sum_below_const zero c = omega arith
sum_below_const (suc n) c = let ih = sum_below_const n c in omega arith

pub sum_below_zero : (n : ℕ) → sum_below n (λ d. 0) ≡ 0
sum_below_zero n = sum_below_const n 0 ∙ mul-zero n

pub cond_lt : {X : Type 0} (a b : ℕ) (x y : X) → a < b → cond (ltb a b) x y ≡ x
cond_lt a b x y h = ap (λ t. cond t x y) (lt-ltb a b h)

pub cond_ge : {X : Type 0} (a b : ℕ) (x y : X) → b ≤ a → cond (ltb a b) x y ≡ y
cond_ge a b x y h = ap (λ t. cond t x y) (le-ltb a b h)

-- a sum over all draws, of which those below w count
pub sum_below_split : (n w : ℕ) (f : ℕ → ℕ) (c : ℕ) → w ≤ n → sum_below n (λ d. cond (ltb d w) (f d) c) ≡ sum_below w f + (n - w) * c
unfolding sum_below
sum_below_split zero zero f c h = omega arith
sum_below_split zero (suc w) f c h = absurd (omega arith)
sum_below_split (suc n) w f c h =
    elim (cases_lt n w) [
      | inl l ↦ all (omega arith) l
      | inr l ↦
          let ih = sum_below_split n w f c l in
          let e = cond_ge n w (f n) c l in
          let k : suc n - w ≡ suc (n - w) = omega arith in
          rw k (omega arith)
    ]
  where
    whole : (m : ℕ) → m ≤ w → sum_below m (λ d. cond (ltb d w) (f d) c) ≡ sum_below m f
    whole m l = sum_below_ext m (λ d. cond (ltb d w) (f d) c) f (λ d k. cond_lt d w (f d) c (omega arith))

    all : w ≡ suc n → n < w → sum_below n (λ d. cond (ltb d w) (f d) c) + cond (ltb n w) (f n) c ≡ sum_below w f + (suc n - w) * c
    all e l =
        let a = whole n (omega arith) in
        let b = cond_lt n w (f n) c l in
        let z : suc n - w ≡ 0 = omega arith in
        let q : sum_below w f ≡ sum_below (suc n) f = ap (λ v. sum_below v f) e in
        rw z (omega arith)

pub sum_by_all : {X : Type 0} (f g : X → ℕ) (xs : List X) → AllByRecursion (λ x. f x ≡ g x) xs → sum_by f xs ≡ sum_by g xs
sum_by_all f g [] h = refl
sum_by_all f g (x ∷ xs) h =
    sum_by-cons f x xs ∙ ap₂' h.0 (sum_by_all f g xs h.1) ∙ sym (sum_by-cons g x xs)
  where
    ap₂' : {a b c d : ℕ} → a ≡ b → c ≡ d → a + c ≡ b + d
    ap₂' e k = cc

pub sum_by_add : {X : Type 0} (f g : X → ℕ) (xs : List X) → sum_by (λ x. f x + g x) xs ≡ sum_by f xs + sum_by g xs
sum_by_add f g [] = refl
sum_by_add f g (x ∷ xs) =
    let ih = sum_by_add f g xs in
    let a = sum_by-cons (λ y. f y + g y) x xs in
    let b = sum_by-cons f x xs in
    let c = sum_by-cons g x xs in
    omega arith

pub sum_by_zero : {X : Type 0} (f : X → ℕ) (xs : List X) → AllByRecursion (λ x. f x ≡ 0) xs → sum_by f xs ≡ 0
sum_by_zero f [] h = refl
sum_by_zero f (x ∷ xs) h =
    let ih = sum_by_zero f xs h.1 in
    let a = sum_by-cons f x xs in
    let b = h.0 in
    omega arith

pub all_zero : {X : Type 0} (f : X → ℕ) (xs : List X) → sum_by f xs ≡ 0 → AllByRecursion (λ x. f x ≡ 0) xs
all_zero f [] h = tt
all_zero f (x ∷ xs) h =
    let a = sum_by-cons f x xs in
    (omega arith, all_zero f xs (omega arith))

-- sums change places
pub sum_by_sum_below : {X : Type 0} (n : ℕ) (f : X → ℕ → ℕ) (xs : List X) → sum_by (λ x. sum_below n (f x)) xs ≡ sum_below n (λ d. sum_by (λ x. f x d) xs)
sum_by_sum_below n f [] = sym (sum_below_zero n)
sum_by_sum_below n f (x ∷ xs) =
    sum_by-cons (λ y. sum_below n (f y)) x xs
    ∙ ap (λ k. sum_below n (f x) + k) (sum_by_sum_below n f xs)
    ∙ sym (sum_below_add n (f x) (λ d. sum_by (λ y. f y d) xs))
    ∙ ap (sum_below n) (fun_ext (λ d. sym (sum_by-cons (λ y. f y d) x xs)))

-- no list passes a test that is always false
pub count_none : (n m : ℕ) (test : List ℕ → Bool) → ((ds : List ℕ) → test ds ≡ false) → count n m test ≡ 0
unfolding count
count_none n zero test h = ap one_if (h [])
count_none n (suc m) test h =
    ap (sum_below n) (fun_ext (λ d. count_none n m (λ ds. test (d ∷ ds)) (λ ds. h (d ∷ ds)))) ∙ sum_below_zero n

pub counts_none : (n m : ℕ) (test : List ℕ → Bool) → ((ds : List ℕ) → test ds ≡ false) → counts n m test ≡ 0
unfolding counts
counts_none n zero test h = count_none n zero test h
counts_none n (suc m) test h =
    let a = counts_none n m test h in
    let b = count_none n (suc m) test h in
    omega arith

-- the empty list, and the lists by their first number
pub counts_step : (n m : ℕ) (test : List ℕ → Bool) → counts n (suc m) test ≡ one_if (test []) + sum_below n (λ d. counts n m (λ ds. test (d ∷ ds)))
unfolding counts count
counts_step n zero test = refl
counts_step n (suc m) test =
    ap (λ k. k + sum_below n (λ d. count n (suc m) (λ ds. test (d ∷ ds)))) (counts_step n m test)
    ∙ add_assoc' (one_if (test [])) _ _
    ∙ ap (λ k. one_if (test []) + k)
    (sym (sum_below_add n (λ d. counts n m (λ ds. test (d ∷ ds))) (λ d. count n (suc m) (λ ds. test (d ∷ ds)))))
  where
    add_assoc' : (a b c : ℕ) → a + b + c ≡ a + (b + c)
    add_assoc' a b c = omega arith

pub times_one : (w : ℕ) (t : Bool) → w * one_if t ≡ cond t w 0
times_one w true = mul-one w
times_one w false = mul-zero w
