-- A row of cards moved, packed and unpacked.
use Rattle.std.proofs.Common.{◌≡◌, ℕ, zero, suc, ◌+◌, ◌-◌, ◌*◌, ◌/◌, ◌%◌, ◌^◌, ◌<◌, ◌≤◌, min, cond, ltb, ◌≢◌, ◌⊎◌, List, [], ◌∷◌, length, get_or, take, drop, set, replicate, sym, refl, ap, ◌∙◌, subst, ⊎_elim, add-zero, pow-suc, div-add-mod', zero-add, div-one, add-one, mul_assoc, arith}
use native.Mathlib.Nat.{pow-le-pow_right, div-div-eq-div-mul, div-eq_of_lt}
use Rattle.std.proofs.lemmas.Bool.{cases_lt, cases_eq, cond-true, cond-false, lt-ltb, le-ltb}
use Rattle.std.proofs.lemmas.List.{at_drop_more, at_drop_all, length-set, set_past, get_or-set_same, get_or-set_other, take_all, get_or_past}
use Rattle.std.proofs.lemmas.Int.Digits.{number_more, number_push}
use Rattle.std.proofs.lemmas.Nat.{div-mul-add, mod-mul-add, mod_below, pow-add, pow_pos}
use Rattle.std.proofs.Math.Pow.{field, mod-mod-pow}
use Rattle.std.proofs.Math.Nat.{mul-div_cancel, mul-mod_left}
use Rattle.std.specs.Int.Digits.{number_from_digits}
use Rattle.std.proofs.lemmas.List.FromFn.{get_or-map-range_with_len, length-map-range_with_len, fill_by_all, map-range_with_len_more, take-map-range_with_len}
use Rattle.cards.specs.Lists.{table}
use Rattle.cards.specs.Rows.{settled, carried, packed, unpacked, OneToOne, Found, Dealt}

-- one more card has moved
pub settle_more : (to : ℕ → ℕ) (row after : List ℕ) (s : ℕ) → s < length row → settled to s (drop s row) after ≡ settled to (s + 1) (drop (s + 1) row) (set after (to s) (get_or row s 0))
settle_more to row after s h =
    at_drop_more (λ (cs : List ℕ). settled to s cs after) row s 0 h
    ∙ ap (λ (n : ℕ). settled to n (drop (s + 1) row) (set after (to s) (get_or row s 0))) (sym (add-one s))

pub settle_all : (to : ℕ → ℕ) (row after : List ℕ) (s : ℕ) → length row ≤ s → settled to s (drop s row) after ≡ after
settle_all to row after s h = at_drop_all (λ (cs : List ℕ). settled to s cs after) row s h

-- a turn of the loop that moves the cards
pub moved_step : (images row after after' : List ℕ) (s to : ℕ) → s < length row → length after ≡ 12 → to ≡ get_or images s 0 → (after' ≡ set after to (get_or row s 0)) ⊎ ((12 ≤ to) × (after' ≡ after)) → (x : List ℕ) → settled (λ n. get_or images n 0) s (drop s row) after ≡ x → (settled (λ n. get_or images n 0) (s + 1) (drop (s + 1) row) after' ≡ x) × (length after' ≡ 12)
moved_step images row after after' s to h long e way x inv =
    let is : after' ≡ set after (get_or images s 0) (get_or row s 0) =
    ⊎_elim
    (λ a. a ∙ ap (λ (n : ℕ). set after n (get_or row s 0)) e)
    (λ b. b.1 ∙ sym (set_past after (get_or images s 0) (get_or row s 0) (omega (arith, long, e, b.0))))
    way in (
      ap (λ (l : List ℕ). settled (λ n. get_or images n 0) (s + 1) (drop (s + 1) row) l) is ∙ sym (settle_more (λ n. get_or images n 0) row after s h) ∙ inv,
      ap length is ∙ length-set after (get_or images s 0) (get_or row s 0) ∙ long,
    )

-- the number packed so far stays small: n cards of a byte each
pub packs : (n x c : ℕ) → n < 12 → x + 17 ≤ 17 * 16 ^ n → c < 256 → (x * 16 < 2 ^ 64) × ((x * 16 + c < 2 ^ 64) × (x * 16 + c + 17 ≤ 17 * 16 ^ (n + 1)))
packs n x c hn hx hc =
    let e : 16 ^ (n + 1) ≡ 16 ^ n * 16 = ap (λ (k : ℕ). 16 ^ k) (add-one n) ∙ pow-suc 16 n in
    let b : 16 ^ n ≤ 16 ^ 11 = let h : n ≤ 11 = omega arith in pow-le-pow_right (omega arith) h in
    let top : 16 ^ 11 ≡ 17592186044416 = refl in
    (omega (arith, e, b, top), (omega (arith, e, b, top), omega (arith, e, b, top)))

-- past the row's end there is nothing to pack
pub packed_all : (n : ℕ) (row : List ℕ) → length row ≡ 12 → packed (min n 12) row ≡ packed n row
packed_all n row long =
    ⊎_elim
    (λ lt. let e : min n 12 ≡ n = omega arith in ap (λ (k : ℕ). packed k row) e)
    (λ ge. let e : min n 12 ≡ 12 = omega arith in ap (λ (l : List ℕ). number_from_digits 16 l) (ap (λ (k : ℕ). take k row) e ∙ take_all 12 row (omega arith) ∙ sym (take_all n row (omega arith))))
    (cases_lt n 12)

-- The digits of x from slot s on stand in the row; `left` is what is left of x above them.
pub record Unpacking (m x s left : ℕ) (cards : List ℕ) : Type 0 where
  pub left_is : left ≡ x / 16 ^ (m - s)
  pub long : length cards ≡ 12
  pub beyond : (k : ℕ) → m ≤ k → get_or cards k 0 ≡ 0
  pub digits : (k : ℕ) → s ≤ k → k < m → get_or cards k 0 ≡ (x / 16 ^ (m - 1 - k)) % 16

zeros_at : (n k : ℕ) → get_or (replicate {A = ℕ} n 0) k 0 ≡ 0
zeros_at zero k = refl
zeros_at (suc n) zero = refl
zeros_at (suc n) (suc k) = zeros_at n k

pub unpacking_none : (m x : ℕ) → Unpacking m x m x (replicate 12 0)
unpacking_none m x = record {
  left_is = sym (ap (λ (k : ℕ). x / 16 ^ k) (let e : m - m ≡ 0 = omega arith in e) ∙ div-one x);
  long = refl;
  beyond = λ k h. zeros_at 12 k;
  digits = λ k low high. absurd (omega arith);
}

pub unpacking_more : (m x s left : ℕ) (cards : List ℕ) → 0 < s → s ≤ m → m ≤ 12 → Unpacking m x s left cards → Unpacking m x (s - 1) (left / 16) (set cards (s - 1) (left % 16))
unpacking_more m x s left cards pos within few u =
    let up : m - (s - 1) ≡ suc (m - s) = omega arith in
    let power : 16 ^ (m - (s - 1)) ≡ 16 ^ (m - s) * 16 = ap (λ (k : ℕ). 16 ^ k) up ∙ pow-suc 16 (m - s) in
    let there : s - 1 < length cards = omega (arith, u.long) in
    record {
      left_is = ap (λ (y : ℕ). y / 16) u.left_is ∙ div-div-eq-div-mul x (16 ^ (m - s)) 16 ∙ ap (λ (y : ℕ). x / y) (sym power);
      long = length-set cards (s - 1) (left % 16) ∙ u.long;
      beyond = λ k h.
          let ne : k ≢ s - 1 = omega arith in
          get_or-set_other cards (s - 1) k (left % 16) 0 ne ∙ u.beyond k h;
      digits = λ k low high.
          ⊎_elim
          (λ (e : k ≡ s - 1).
          let d : m - s ≡ m - 1 - k = omega arith in
          ap (λ (i : ℕ). get_or (set cards (s - 1) (left % 16)) i 0) e
          ∙ get_or-set_same cards (s - 1) (left % 16) 0 there
          ∙ ap (λ (y : ℕ). y % 16) (u.left_is ∙ ap (λ (i : ℕ). x / 16 ^ i) d))
          (λ (ne : k ≡ s - 1 → ⊥).
          let above : s ≤ k = omega arith in
          get_or-set_other cards (s - 1) k (left % 16) 0 ne ∙ u.digits k above high)
          (cases_eq k (s - 1));
    }

pub unpacking_all : (m x s left : ℕ) (cards : List ℕ) → s ≤ 0 → Unpacking m x s left cards → cards ≡ unpacked m x
unpacking_all m x s left cards none u =
    fill_by_all (λ (k : ℕ). cond (ltb k m) ((x / 16 ^ (m - 1 - k)) % 16) 0) cards 12 0 u.long
    (λ k h.
    ⊎_elim
    (λ lt. let low : s ≤ k = omega arith in u.digits k low lt ∙ sym (cond-true _ _ _ (lt-ltb k m lt)))
    (λ ge. u.beyond k ge ∙ sym (cond-false _ _ _ (le-ltb k m ge)))
    (cases_lt k m))

-- the number of the first n cards, without its lowest n − k digits, is that of the first k
shifted : (ds : List ℕ) → ((s : ℕ) → s < length ds → get_or ds s 0 < 16) → (j k : ℕ) → k + j ≤ length ds → number_from_digits 16 (take (k + j) ds) / 16 ^ j ≡ number_from_digits 16 (take k ds)
shifted ds low zero k h = div-one _ ∙ ap (λ (i : ℕ). number_from_digits 16 (take i ds)) (add-zero k)
shifted ds low (suc j) k h =
    let here : k < length ds = omega arith in
    let up : k + suc j ≡ k + 1 + j = omega arith in
    let room : k + 1 + j ≤ length ds = omega arith in
    ap (λ (y : ℕ). number_from_digits 16 (take (k + suc j) ds) / y) (pow-suc 16 j)
    ∙ sym (div-div-eq-div-mul (number_from_digits 16 (take (k + suc j) ds)) (16 ^ j) 16)
    ∙ ap (λ (i : ℕ). number_from_digits 16 (take i ds) / 16 ^ j / 16) up
    ∙ ap (λ (y : ℕ). y / 16) (shifted ds low j (k + 1) room ∙ number_more 16 ds k here)
    ∙ div-mul-add (number_from_digits 16 (take k ds)) 16 (get_or ds k 0) (low k here)

-- digit s of the number of the first n cards is the card in slot s
digit : (ds : List ℕ) → ((s : ℕ) → s < length ds → get_or ds s 0 < 16) → (n s : ℕ) → s < n → n ≤ length ds → (number_from_digits 16 (take n ds) / 16 ^ (n - 1 - s)) % 16 ≡ get_or ds s 0
digit ds low n s hs hn =
    let here : s < length ds = omega arith in
    let all : n ≡ s + 1 + (n - 1 - s) = omega arith in
    let room : s + 1 + (n - 1 - s) ≤ length ds = omega arith in
    ap (λ (i : ℕ). (number_from_digits 16 (take i ds) / 16 ^ (n - 1 - s)) % 16) all
    ∙ ap (λ (y : ℕ). y % 16) (shifted ds low (n - 1 - s) (s + 1) room ∙ number_more 16 ds s here)
    ∙ mod-mul-add (number_from_digits 16 (take s ds)) 16 (get_or ds s 0) (low s here)

dealt_low : (n : ℕ) (row : List ℕ) → Dealt n row → (s : ℕ) → s < length row → get_or row s 0 < 16
dealt_low n row d s h =
    ⊎_elim (λ lt. d.cards s lt) (λ ge. omega (arith, d.beyond s ge)) (cases_lt s n)

pub unpack_pack : (n : ℕ) (row : List ℕ) → n ≤ 12 → Dealt n row → unpacked n (packed n row) ≡ row
unpack_pack n row few d =
    sym
    (fill_by_all (λ (k : ℕ). cond (ltb k n) ((packed n row / 16 ^ (n - 1 - k)) % 16) 0) row 12 0 d.long
    (λ k h.
    ⊎_elim
    (λ lt. let room : n ≤ length row = omega (arith, d.long) in sym (digit row (dealt_low n row d) n k lt room) ∙ sym (cond-true _ _ _ (lt-ltb k n lt)))
    (λ ge. d.beyond k ge ∙ sym (cond-false _ _ _ (le-ltb k n ge)))
    (cases_lt k n)))

-- the digits of x above its lowest n − k, written again
regained : (n x : ℕ) (f : ℕ → ℕ) → ((s : ℕ) → s < n → f s ≡ (x / 16 ^ (n - 1 - s)) % 16) → x < 16 ^ n → (k : ℕ) → k ≤ n → number_from_digits 16 (table k f) ≡ x / 16 ^ (n - k)
regained n x f is small zero h = let e : n - 0 ≡ n = omega arith in sym (ap (λ (i : ℕ). x / 16 ^ i) e ∙ div-eq_of_lt small)
regained n x f is small (suc k) h =
    let le : k ≤ n = omega arith in
    let lt : k < n = omega arith in
    let y : ℕ = x / 16 ^ (n - suc k) in
    let low : n - 1 - k ≡ n - suc k = omega arith in
    let up : n - k ≡ suc (n - suc k) = omega arith in
    let high : x / 16 ^ (n - k) ≡ y / 16 = ap (λ (i : ℕ). x / 16 ^ i) up ∙ ap (λ (p : ℕ). x / p) (pow-suc 16 (n - suc k)) ∙ sym (div-div-eq-div-mul x (16 ^ (n - suc k)) 16) in
    let last : f k ≡ y % 16 = is k lt ∙ ap (λ (i : ℕ). (x / 16 ^ i) % 16) low in
    ap (λ (i : ℕ). number_from_digits 16 (table i f)) (sym (add-one k))
    ∙ ap (λ (l : List ℕ). number_from_digits 16 l) (map-range_with_len_more f 0 k k (zero-add k))
    ∙ number_push 16 (table k f) (f k)
    ∙ ap (λ (z : ℕ). z * 16 + f k) (regained n x f is small k le ∙ high)
    ∙ ap (λ (z : ℕ). y / 16 * 16 + z) last
    ∙ div-add-mod' y 16

pub pack_unpack : (n x : ℕ) → n ≤ 12 → x < 16 ^ n → packed n (unpacked n x) ≡ x
pack_unpack n x few small =
    let f : ℕ → ℕ = λ s. cond (ltb s n) ((x / 16 ^ (n - 1 - s)) % 16) 0 in
    let none : n - n ≡ 0 = omega arith in
    ap (λ (l : List ℕ). number_from_digits 16 l) (take-map-range_with_len f 0 12 n few)
    ∙ regained n x f (λ s h. cond-true _ _ _ (lt-ltb s n h)) small n (omega arith)
    ∙ ap (λ (i : ℕ). x / 16 ^ i) none
    ∙ div-one x

pub unpack_dealt : (n x : ℕ) → n ≤ 12 → Dealt n (unpacked n x)
unpack_dealt n x few =
    let f : ℕ → ℕ = λ s. cond (ltb s n) ((x / 16 ^ (n - 1 - s)) % 16) 0 in
    record {
      long = length-map-range_with_len f 0 12;
      cards = λ s h. let lt : s < 12 = omega arith in let e = get_or-map-range_with_len f 0 12 s s 0 lt (zero-add s) ∙ cond-true _ _ _ (lt-ltb s n h) in let b = mod_below (x / 16 ^ (n - 1 - s)) 16 (omega arith) in omega (arith, e, b);
      beyond = λ s h.
          ⊎_elim
          (λ lt. get_or-map-range_with_len f 0 12 s s 0 lt (zero-add s) ∙ cond-false _ _ _ (le-ltb s n h))
          (λ ge. get_or_past (unpacked n x) s 0 (subst (λ (k : ℕ). k ≤ s) (sym (length-map-range_with_len f 0 12)) ge))
          (cases_lt s 12);
    }

-- a card that has moved is not overwritten by those after it
settled_keeps : (to : ℕ → ℕ) (cs after : List ℕ) (s t : ℕ) → ((i : ℕ) → s ≤ i → i < s + length cs → to i ≡ t → ⊥) → get_or (settled to s cs after) t 0 ≡ get_or after t 0
settled_keeps to [] after s t apart = refl
settled_keeps to (c ∷ cs) after s t apart =
    let ne : t ≢ to s = λ e. apart s (omega arith) (omega arith) (sym e) in
    settled_keeps to cs (set after (to s) c) (suc s) t (λ i low high. apart i (omega arith) (omega arith))
    ∙ get_or-set_other after (to s) t c 0 ne

settled_found : (to : ℕ → ℕ) (cs after : List ℕ) (s i : ℕ) → i < length cs → to (s + i) < length after → ((j : ℕ) → j < length cs → to (s + j) ≡ to (s + i) → j ≡ i) → get_or (settled to s cs after) (to (s + i)) 0 ≡ get_or cs i 0
settled_found to [] after s i h there apart = absurd (omega arith)
settled_found to (c ∷ cs) after s zero h there apart =
    let e : s + 0 ≡ s = add-zero s in
    let there' : to s < length after = subst (λ (n : ℕ). to n < length after) e there in
    ap (λ (n : ℕ). get_or (settled to (suc s) cs (set after (to s) c)) (to n) 0) e
    ∙ settled_keeps to cs (set after (to s) c) (suc s) (to s)
    (λ i low high same.
    let j : i ≡ s + (i - s) = omega arith in
    let z : i - s ≡ 0 = apart (i - s) (omega arith) (ap to (sym j) ∙ same ∙ ap to (sym e)) in
    omega arith)
    ∙ get_or-set_same after (to s) c 0 there'
settled_found to (c ∷ cs) after s (suc i) h there apart =
    let e : s + suc i ≡ suc s + i = omega arith in
    let there' : to (suc s + i) < length (set after (to s) c) = subst (λ (n : ℕ). to (suc s + i) < n) (sym (length-set after (to s) c)) (subst (λ (n : ℕ). to n < length after) e there) in
    ap (λ (n : ℕ). get_or (settled to (suc s) cs (set after (to s) c)) (to n) 0) e
    ∙ settled_found to cs (set after (to s) c) (suc s) i (omega arith) there'
    (λ j hj same.
    let f : suc s + j ≡ s + suc j = omega arith in
    let z : suc j ≡ suc i = apart (suc j) (omega arith) (ap to (sym f) ∙ same ∙ ap to (sym e)) in
    omega arith)

pub carried_found : (to : ℕ → ℕ) (row : List ℕ) → OneToOne (length row) to → Found to row (carried to row)
carried_found to row one s h =
    let e : 0 + s ≡ s = zero-add s in
    ap (λ (n : ℕ). get_or (carried to row) (to n) 0) (sym e)
    ∙ settled_found to row row 0 s h (subst (λ (n : ℕ). to n < length row) (sym e) (one.below s h))
    (λ j hj same. one.apart j s hj h (ap to (sym (zero-add j)) ∙ same ∙ ap to e))

settled_long : (to : ℕ → ℕ) (s : ℕ) (cs after : List ℕ) → length (settled to s cs after) ≡ length after
settled_long to s [] after = refl
settled_long to s (c ∷ cs) after = settled_long to (suc s) cs (set after (to s) c) ∙ length-set after (to s) c

pub carried_long : (to : ℕ → ℕ) (row : List ℕ) → length (carried to row) ≡ length row
carried_long to row = settled_long to 0 row row

settled_same : (f g : ℕ → ℕ) (s : ℕ) (cs after : List ℕ) → ((i : ℕ) → i < s + length cs → f i ≡ g i) → settled f s cs after ≡ settled g s cs after
settled_same f g s [] after same = refl
settled_same f g s (c ∷ cs) after same =
    ap (λ (t : ℕ). settled f (suc s) cs (set after t c)) (same s (omega arith))
    ∙ settled_same f g (suc s) cs (set after (g s) c) (λ i h. same i (omega arith))

pub carried_same : (f g : ℕ → ℕ) (row : List ℕ) → ((i : ℕ) → i < length row → f i ≡ g i) → carried f row ≡ carried g row
carried_same f g row same = settled_same f g 0 row row (λ i h. same i (omega arith))

-- four bits are a digit of base 16
pub sixteens : (k : ℕ) → 2 ^ (4 * k) ≡ 16 ^ k
sixteens zero = refl
sixteens (suc k) =
    let more : 2 ^ (4 * suc k) ≡ 2 ^ (4 * k) * 16 = ap (λ (n : ℕ). 2 ^ n) (let e : 4 * suc k ≡ 4 * k + 4 = omega arith in e) ∙ pow-add 2 (4 * k) 4 in
    more ∙ ap (λ (n : ℕ). n * 16) (sixteens k) ∙ sym (pow-suc 16 k)

-- a digit of a number whose first digit was brought to the twelfth place
pub aligned_digit : (x n s : ℕ) → n ≤ 12 → s < 12 → ((x * 2 ^ (4 * (12 - n))) % 18446744073709551616 / 2 ^ (4 * (11 - s))) % 16 ≡ cond (ltb s n) ((x / 16 ^ (n - 1 - s)) % 16) 0
aligned_digit x n s hn hs =
    let j : ℕ = 4 * (11 - s) in
    let y : ℕ = x * 2 ^ (4 * (12 - n)) in
    let low : (y % 18446744073709551616 / 2 ^ j) % 16 ≡ (y / 2 ^ j) % 16 =
    ap (λ (k : ℕ). (y % 2 ^ k / 2 ^ j) % 16) (let e : 64 ≡ ((60 - j) + 4) + j = omega arith in e)
    ∙ (ap (λ (k : ℕ). k % 16) (field y ((60 - j) + 4) j) ∙ mod-mod-pow (y / 2 ^ j) (60 - j) 4) in
    ⊎_elim
    (λ (lt : s < n).
    let m : ℕ = 4 * (n - 1 - s) in
    let k : ℕ = 4 * (12 - n) in
    let parts : 2 ^ j ≡ 2 ^ k * 2 ^ m = ap (λ (i : ℕ). 2 ^ i) (let e : j ≡ k + m = omega arith in e) ∙ pow-add 2 k m in
    low ∙ (ap (λ (i : ℕ). (y / i) % 16) parts
    ∙ (ap (λ (i : ℕ). i % 16) (sym (div-div-eq-div-mul y (2 ^ k) (2 ^ m)))
    ∙ (ap (λ (i : ℕ). (i / 2 ^ m) % 16) (mul-div_cancel x (pow_pos k))
    ∙ (ap (λ (i : ℕ). (x / i) % 16) (sixteens (n - 1 - s)) ∙ sym (cond-true _ _ _ (lt-ltb s n lt))))))
    )
    (λ (ge : n ≤ s).
    let r : ℕ = 4 * (s - n) in
    let parts : 2 ^ (4 * (12 - n)) ≡ 2 ^ r * 16 * 2 ^ j =
    ap (λ (i : ℕ). 2 ^ i) (let e : 4 * (12 - n) ≡ (r + 4) + j = omega arith in e) ∙ (pow-add 2 (r + 4) j ∙ ap (λ (i : ℕ). i * 2 ^ j) (pow-add 2 r 4)) in
    let whole : y ≡ x * 2 ^ r * 16 * 2 ^ j = ap (λ (i : ℕ). x * i) parts ∙ (sym (mul_assoc x (2 ^ r * 16) (2 ^ j)) ∙ ap (λ (i : ℕ). i * 2 ^ j) (sym (mul_assoc x (2 ^ r) 16))) in
    low ∙ (ap (λ (i : ℕ). (i / 2 ^ j) % 16) whole
    ∙ (ap (λ (i : ℕ). i % 16) (mul-div_cancel (x * 2 ^ r * 16) (pow_pos j))
    ∙ (mul-mod_left (x * 2 ^ r) 16 ∙ sym (cond-false _ _ _ (le-ltb s n ge)))))
    )
    (cases_lt s n)
