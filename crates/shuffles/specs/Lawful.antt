-- Each shuffle and each layer keeps the laws of a shuffle.
use Rattle.std.specs.Prelude.{◌≡◌, ℕ, ◌+◌, ◌-◌, ◌*◌, ◌/◌, ◌%◌, ◌<◌, ◌≤◌, Bool, true, false, cond, List, [], length, get_or, ◌≢◌, slice_index, slice_index_or}
use Rattle.std.proofs.Common.{sym, ap, subst, ◌∙◌, ⊎_elim, arith, mod-lt, mod-eq_of_lt, div-add-mod', mul_comm, zero-add}
use Rattle.std.proofs.Math.Nat.{mod-eq-sub-mod}
use Rattle.std.proofs.lemmas.List.FromFn.{get_or-map-range_with_len, length-map-range_with_len}
use Rattle.std.proofs.lemmas.Bool.{cond_both, cases_lt, and_parts, leb-true, eqb-true, cond-true, cond-false, and_from, lt-ltb, and_left, and_right, le-ltb, cases_Bool, both_ways}
use Rattle.std.proofs.lemmas.Nat.{mul-add-lt, div-mul-add, mod-mul-add, div_below, mod_below, mul-le}
use Rattle.cards.specs.Shuffles.{ShuffleMeaning, LawfulShuffle, image, still, stopped, cut, cut_fits, piles, piles_fit, places, places_fit, permutation, permutations, Permutes, Listed}
use Rattle.cards.specs.Rows.{OneToOne}
use Rattle.cards.specs.Lists.{member, distinct, position}
use Rattle.shuffles.specs.Positions.{position_below, member_getD, distinct_range, distinct_apart, member_is}

pub image_in : (m : ShuffleMeaning) (d s : ℕ) → d < m.total → s < m.width → image m d s ≡ m.sends d s
image_in m d s hd hs = cond-true _ _ _ (and_from _ _ (lt-ltb _ _ hd) (lt-ltb _ _ hs))

pub image_draw_out : (m : ShuffleMeaning) (d s : ℕ) → m.total ≤ d → image m d s ≡ s
image_draw_out m d s h = cond-false _ _ _ (and_left _ _ (le-ltb _ _ h))

pub image_slot_out : (m : ShuffleMeaning) (d s : ℕ) → m.width ≤ s → image m d s ≡ s
image_slot_out m d s h = cond-false _ _ _ (and_right _ _ (le-ltb _ _ h))

-- the image of a slot of the shuffle is one of its slots, under any draw
pub image_inside : (m : ShuffleMeaning) → LawfulShuffle m → (d s : ℕ) → s < m.width → image m d s < m.width
image_inside m w d s hs =
    ⊎_elim
    (λ hd. subst (λ x. x < m.width) (sym (image_in m d s hd hs)) (w.inside d s hd hs))
    (λ hd. subst (λ x. x < m.width) (sym (image_draw_out m d s hd)) hs)
    (cases_lt d m.total)

pub image_apart : (m : ShuffleMeaning) → LawfulShuffle m → (d s t : ℕ) → s < m.width → t < m.width → image m d s ≡ image m d t → s ≡ t
image_apart m w d s t hs ht e =
    ⊎_elim
    (λ hd. w.one_to_one d s t hd hs ht (sym (image_in m d s hd hs) ∙ e ∙ image_in m d t hd ht))
    (λ hd. sym (image_draw_out m d s hd) ∙ e ∙ image_draw_out m d t hd)
    (cases_lt d m.total)

pub lawful_still : LawfulShuffle still
lawful_still = record {
  some_slot = omega arith;
  few_slots = omega arith;
  some_draw = omega arith;
  few_draws = omega arith;
  inside = λ d s hd hs. hs;
  one_to_one = λ d s t hd hs ht e. e;
}

pub lawful_stopped : (m : ShuffleMeaning) → LawfulShuffle m → LawfulShuffle (stopped m)
lawful_stopped m w = record {
  some_slot = w.some_slot;
  few_slots = w.few_slots;
  some_draw = w.some_draw;
  few_draws = w.few_draws;
  inside = λ d s hd hs. hs;
  one_to_one = λ d s t hd hs ht e. e;
}

-- a sum of two numbers below q, counted round
cut_short : (q j d : ℕ) → j + d < q → (j + d) % q ≡ j + d
cut_short q j d h = mod-eq_of_lt h

cut_round : (q j d : ℕ) → j < q → d < q → q ≤ j + d → (j + d) % q ≡ j + d - q
cut_round q j d hj hd h = mod-eq-sub-mod h ∙ mod-eq_of_lt (omega arith)

cut_apart : (q d s t : ℕ) → d < q → s < q → t < q → (s + d) % q ≡ (t + d) % q → s ≡ t
cut_apart q d s t hd hs ht e =
    ⊎_elim
    (λ a.
    ⊎_elim
    (λ b. omega (arith, cut_short q s d a, cut_short q t d b))
    (λ b. omega (arith, cut_short q s d a, cut_round q t d ht hd b))
    (cases_lt (t + d) q))
    (λ a.
    ⊎_elim
    (λ b. omega (arith, cut_round q s d hs hd a, cut_short q t d b))
    (λ b. omega (arith, cut_round q s d hs hd a, cut_round q t d ht hd b))
    (cases_lt (t + d) q))
    (cases_lt (s + d) q)

pub lawful_cut : (q : ℕ) → LawfulShuffle (cut q)
lawful_cut q =
    cond_both (cut_fits q) _ _ LawfulShuffle
    (λ e.
    let low : 1 ≤ q = leb-true 1 q (and_parts _ _ e).0 in
    let high : q ≤ 12 = leb-true q 12 (and_parts _ _ e).1 in
    record {
      some_slot = low;
      few_slots = high;
      some_draw = low;
      few_draws = omega arith;
      inside = λ d s hd hs. mod-lt (s + d) low;
      one_to_one = λ d s t hd hs ht e. cut_apart q d s t hd hs ht e;
    })
    (λ e. lawful_still)

-- the pile of a slot, and where it goes
pub pile_inside : (m : ℕ) (below : ShuffleMeaning) → LawfulShuffle below → 1 ≤ m → (d s : ℕ) → s < below.width * m → image below d (s / m) * m + s % m < below.width * m
pile_inside m below w pos d s hs =
    subst (λ x. image below d (s / m) * m + s % m < x) (mul_comm m below.width)
    (mul-add-lt _ m _ _ (image_inside below w d (s / m) (div_below s m _ pos hs)) (mod_below s m pos))

pile_apart : (m : ℕ) (below : ShuffleMeaning) → LawfulShuffle below → 1 ≤ m → (d s t : ℕ) → s < below.width * m → t < below.width * m → image below d (s / m) * m + s % m ≡ image below d (t / m) * m + t % m → s ≡ t
pile_apart m below w pos d s t hs ht e =
    let quot : s / m ≡ t / m = image_apart below w d _ _ (div_below s m _ pos hs) (div_below t m _ pos ht) (sym (div-mul-add _ m _ (mod_below s m pos)) ∙ ap (λ x. x / m) e ∙ div-mul-add _ m _ (mod_below t m pos)) in
    let rest : s % m ≡ t % m = sym (mod-mul-add _ m _ (mod_below s m pos)) ∙ ap (λ x. x % m) e ∙ mod-mul-add _ m _ (mod_below t m pos) in
    sym (div-add-mod' s m) ∙ ap (λ x. x * m + s % m) quot ∙ ap (λ x. t / m * m + x) rest ∙ div-add-mod' t m

mul_pos : (m w : ℕ) → 1 ≤ m → 1 ≤ w → 1 ≤ w * m
mul_pos m w hm hw = mul-le 1 1 w m hw hm

pub lawful_piles : (m : ℕ) (below : ShuffleMeaning) → LawfulShuffle below → LawfulShuffle (piles m below)
lawful_piles m below w =
    cond_both (piles_fit m below) _ _ LawfulShuffle
    (λ e.
    let pos : 1 ≤ m = leb-true 1 m (and_parts _ _ e).0 in
    let high : below.width * m ≤ 12 = leb-true _ 12 (and_parts _ _ e).1 in
    record {
      some_slot = mul_pos m below.width pos w.some_slot;
      few_slots = high;
      some_draw = w.some_draw;
      few_draws = w.few_draws;
      inside = λ d s hd hs. pile_inside m below w pos d s hs;
      one_to_one = λ d s t hd hs ht e. pile_apart m below w pos d s t hs ht e;
    })
    (λ e. lawful_stopped below w)

-- a pile's card lands in the row
pub pile_bound : (m : ℕ) (below : ShuffleMeaning) → LawfulShuffle below → (d s x : ℕ) → piles_fit m below ≡ true → s < (piles m below).width → x ≡ image below d (s / m) → x * m + s % m < 12
pile_bound m below w d s x fit hs e =
    let pos : 1 ≤ m = leb-true 1 m (and_parts _ _ fit).0 in
    let high : below.width * m ≤ 12 = leb-true _ 12 (and_parts _ _ fit).1 in
    let wide : (piles m below).width ≡ below.width * m = ap (λ (t : Bool). (cond t (record { width = below.width * m; total = below.total; sends = λ d s. image below d (s / m) * m + s % m }) (stopped below)).width) fit in
    let hs' : s < below.width * m = subst (λ n. s < n) wide hs in
    let b = pile_inside m below w pos d s hs' in
    let b' : x * m + s % m < below.width * m = subst (λ y. y * m + s % m < below.width * m) (sym e) b in
    omega arith

-- what it means that a list of places fits
pub record Fitting (n : ℕ) (ps : List ℕ) (below : ShuffleMeaning) : Type 0 where
  pub low : 1 ≤ n
  pub high : n ≤ 12
  pub long : length ps ≡ below.width
  pub apart : distinct 1 n ps ≡ true

pub fitting : (n : ℕ) (ps : List ℕ) (below : ShuffleMeaning) → places_fit n ps below ≡ true → Fitting n ps below
fitting n ps below e =
    let p = and_parts _ _ e in
    let q = and_parts _ _ p.0 in
    let r = and_parts _ _ p.1 in
    record { low = leb-true 1 n q.0; high = leb-true n 12 q.1; long = eqb-true _ _ r.0; apart = r.1 }

-- where the place of slot s goes, as the layer says it
abbrev went : (ps : List ℕ) (below : ShuffleMeaning) (d s : ℕ) → ℕ
went ps below d s = cond (member (s + 1) ps) (slice_index ps (image below d (position (s + 1) ps)) - 1) s

module _ (n : ℕ) (ps : List ℕ) (below : ShuffleMeaning) (w : LawfulShuffle below) (f : Fitting n ps below) (d : ℕ) where
  -- a listed place goes to a listed place
  pub listed_to : (s : ℕ) → member (s + 1) ps ≡ true → image below d (position (s + 1) ps) < length ps
  listed_to s m =
      let h : position (s + 1) ps < below.width = subst (λ x. position (s + 1) ps < x) f.long (position_below (s + 1) ps m).0 in
      subst (λ x. image below d (position (s + 1) ps) < x) (sym f.long) (image_inside below w d _ h)

  pub went_listed : (s : ℕ) → member (s + 1) ps ≡ true → went ps below d s + 1 ≡ slice_index ps (image below d (position (s + 1) ps))
  went_listed s m =
      let r = distinct_range 1 n ps f.apart _ (listed_to s m) in
      let e = cond-true (member (s + 1) ps) (slice_index ps (image below d (position (s + 1) ps)) - 1) s m in
      omega (arith, e, r)

  pub went_inside : (s : ℕ) → s < n → went ps below d s < n
  went_inside s hs =
      ⊎_elim
      (λ m. omega (arith, went_listed s m, distinct_range 1 n ps f.apart _ (listed_to s m)))
      (λ m. subst (λ x. x < n) (sym (cond-false (member (s + 1) ps) _ _ m)) hs)
      (cases_Bool (member (s + 1) ps))

  -- no place outside the list is gone to by one inside
  mixed : (s t : ℕ) → member (s + 1) ps ≡ true → member (t + 1) ps ≡ false → went ps below d s ≢ went ps below d t
  mixed s t ms mt e =
      let e' : went ps below d s ≡ t = e ∙ cond-false (member (t + 1) ps) _ _ mt in
      let e'' : get_or ps (image below d (position (s + 1) ps)) 0 ≡ t + 1 = sym (went_listed s ms) ∙ ap (λ x. x + 1) e' in
      both_ways _ mt (ap (λ x. member x ps) (sym e'') ∙ member_getD ps _ (listed_to s ms))

  pub went_apart : (s t : ℕ) → went ps below d s ≡ went ps below d t → s ≡ t
  went_apart s t e =
      ⊎_elim
      (λ ms.
      ⊎_elim
      (λ mt.
      let same : image below d (position (s + 1) ps) ≡ image below d (position (t + 1) ps) = distinct_apart 1 n ps f.apart _ _ (listed_to s ms) (listed_to t mt) (sym (went_listed s ms) ∙ ap (λ x. x + 1) e ∙ went_listed t mt) in
      let ps' = position_below (s + 1) ps ms in
      let pt' = position_below (t + 1) ps mt in
      let at : position (s + 1) ps ≡ position (t + 1) ps = image_apart below w d _ _ (subst (λ x. position (s + 1) ps < x) f.long ps'.0) (subst (λ x. position (t + 1) ps < x) f.long pt'.0) same in
      let one : s + 1 ≡ t + 1 = sym ps'.1 ∙ ap (λ x. slice_index ps x) at ∙ pt'.1 in
      omega arith)
      (λ mt. absurd (mixed s t ms mt e))
      (cases_Bool (member (t + 1) ps)))
      (λ ms.
      ⊎_elim
      (λ mt. absurd (mixed t s mt ms (sym e)))
      (λ mt. sym (cond-false (member (s + 1) ps) _ _ ms) ∙ e ∙ cond-false (member (t + 1) ps) _ _ mt)
      (cases_Bool (member (t + 1) ps)))
      (cases_Bool (member (s + 1) ps))

  -- under a draw out of range each place stays
  pub went_nowhere : (s : ℕ) → below.total ≤ d → went ps below d s ≡ s
  went_nowhere s h =
      ⊎_elim
      (λ m.
      let g = went_listed s m in
      let e : get_or ps (image below d (position (s + 1) ps)) 0 ≡ s + 1 = ap (λ x. slice_index ps x) (image_draw_out below d _ h) ∙ (position_below (s + 1) ps m).1 in
      omega (arith, g, e))
      (λ m. cond-false (member (s + 1) ps) _ _ m)
      (cases_Bool (member (s + 1) ps))

  -- a slot past the row is no listed place
  pub went_past : (s : ℕ) → n ≤ s → member (s + 1) ps ≡ false
  went_past s h =
      ⊎_elim
      (λ m. let p = position_below (s + 1) ps m in absurd (omega (arith, p.1, distinct_range 1 n ps f.apart _ p.0)))
      (λ m. m)
      (cases_Bool (member (s + 1) ps))

pub lawful_places : (n : ℕ) (ps : List ℕ) (below : ShuffleMeaning) → LawfulShuffle below → LawfulShuffle (places n ps below)
lawful_places n ps below w =
    cond_both (places_fit n ps below) _ _ LawfulShuffle
    (λ e.
    let f = fitting n ps below e in
    record {
      some_slot = f.low;
      few_slots = f.high;
      some_draw = w.some_draw;
      few_draws = w.few_draws;
      inside = λ d s hd hs. went_inside n ps below w f d s hs;
      one_to_one = λ d s t hd hs ht e. went_apart n ps below w f d s t e;
    })
    (λ e. lawful_stopped below w)

-- the image of a slot under the layer, where it fits
pub places_image : (n : ℕ) (ps : List ℕ) (below : ShuffleMeaning) → LawfulShuffle below → places_fit n ps below ≡ true → (d s : ℕ) → image (places n ps below) d s ≡ went ps below d s
places_image n ps below w e d s =
    let f = fitting n ps below e in
    let row : ShuffleMeaning = record { width = n; total = below.total; sends = λ d s. went ps below d s } in
    let is : image (places n ps below) d s ≡ image row d s = ap (λ (m : ShuffleMeaning). image m d s) (cond-true _ row (stopped below) e) in
    ⊎_elim
    (λ hd.
    ⊎_elim
    (λ hs. is ∙ image_in row d s hd hs)
    (λ hs. is ∙ image_slot_out row d s hs ∙ sym (cond-false (member (s + 1) ps) _ _ (went_past n ps below w f d s hs)))
    (cases_lt s n))
    (λ hd. is ∙ image_draw_out row d s hd ∙ sym (went_nowhere n ps below w f d s hd))
    (cases_lt d below.total)

-- The place of slot s stands at position r of the list: what the layer reads and answers.
pub record Lands (n : ℕ) (ps : List ℕ) (below : ShuffleMeaning) (d s t : ℕ) : Type 0 where
  pub there : t < length ps
  pub low : 1 ≤ slice_index ps t
  pub high : get_or ps t 0 ≤ 12
  pub slot : (x : ℕ) → x + 1 ≡ slice_index ps t → x ≡ image (places n ps below) d s

pub lands : (n : ℕ) (ps : List ℕ) (below : ShuffleMeaning) → LawfulShuffle below → places_fit n ps below ≡ true → (d s r t : ℕ) → r ≡ position (s + 1) ps → r < length ps → t ≡ image below d r → Lands n ps below d s t
lands n ps below w e d s r t er hr et =
    let f = fitting n ps below e in
    let m : member (s + 1) ps ≡ true = member_is (s + 1) ps ∙ lt-ltb _ _ (subst (λ x. x < length ps) er hr) in
    let et' : t ≡ image below d (position (s + 1) ps) = et ∙ ap (λ x. image below d x) er in
    let ht : t < length ps = subst (λ x. x < length ps) (sym et') (listed_to n ps below w f d s m) in
    let range = distinct_range 1 n ps f.apart t ht in
    record {
      there = ht;
      low = range.0;
      high = omega (arith, range.1, f.high);
      slot = λ x ex.
          let went' = went_listed n ps below w f d s m in
          let same : get_or ps t 0 ≡ get_or ps (image below d (position (s + 1) ps)) 0 = ap (λ y. slice_index ps y) et' in
          let x-is : x ≡ went ps below d s = omega (arith, went', same, ex) in
          x-is ∙ sym (places_image n ps below w e d s);
    }

-- a place that is not listed stays
pub stays : (n : ℕ) (ps : List ℕ) (below : ShuffleMeaning) → LawfulShuffle below → places_fit n ps below ≡ true → (d s r : ℕ) → r ≡ position (s + 1) ps → length ps ≤ r → s ≡ image (places n ps below) d s
stays n ps below w e d s r er hr =
    let m : member (s + 1) ps ≡ false = member_is (s + 1) ps ∙ le-ltb _ _ (subst (λ x. length ps ≤ x) er hr) in
    sym (cond-false (member (s + 1) ps) _ _ m) ∙ sym (places_image n ps below w e d s)

-- a shuffle moves the twelve slots of a row one to one
pub image_below : (m : ShuffleMeaning) → LawfulShuffle m → (d s : ℕ) → s < 12 → image m d s < 12
image_below m w d s h =
    ⊎_elim
    (λ lt. omega (arith, image_inside m w d s lt, w.few_slots))
    (λ ge. omega (arith, image_slot_out m d s ge))
    (cases_lt s m.width)

pub image_one : (m : ShuffleMeaning) → LawfulShuffle m → (d : ℕ) → OneToOne 12 (image m d)
image_one m w d = record {
  below = image_below m w d;
  apart = λ s t hs ht e.
      ⊎_elim
      (λ a.
      ⊎_elim
      (λ b. image_apart m w d s t a b e)
      (λ b. absurd (omega (arith, e, image_inside m w d s a, image_slot_out m d t b)))
      (cases_lt t m.width))
      (λ a.
      ⊎_elim
      (λ b. absurd (omega (arith, e, image_inside m w d t b, image_slot_out m d s a)))
      (λ b. sym (image_slot_out m d s a) ∙ e ∙ image_slot_out m d t b)
      (cases_lt t m.width))
      (cases_lt s m.width);
}

-- the permutation of a draw, as a list
permutation_at : (m : ShuffleMeaning) (d s x : ℕ) → s < m.width → slice_index_or (permutation m d) s x ≡ m.sends d s
permutation_at m d s x h = get_or-map-range_with_len (m.sends d) 0 m.width s s x h (zero-add s)

pub permutes_draw : (m : ShuffleMeaning) → LawfulShuffle m → (d : ℕ) → d < m.total → Permutes m.width (permutation m d)
permutes_draw m w d hd = record {
  long = length-map-range_with_len (m.sends d) 0 m.width;
  below = λ s hs. subst (λ (x : ℕ). x < m.width) (sym (permutation_at m d s 0 hs)) (w.inside d s hd hs);
  apart = λ s t hs ht e. w.one_to_one d s t hd hs ht (sym (permutation_at m d s 0 hs) ∙ e ∙ permutation_at m d t 0 ht);
}

pub listed : (m : ShuffleMeaning) → LawfulShuffle m → Listed m
listed m w =
    let picked : (d : ℕ) → d < m.total → slice_index_or (permutations m) d [] ≡ permutation m d = λ d hd. get_or-map-range_with_len (permutation m) 0 m.total d d [] hd (zero-add d) in
    record {
      count = length-map-range_with_len (permutation m) 0 m.total;
      each = λ d hd. subst (λ (p : List ℕ). Permutes m.width p) (sym (picked d hd)) (permutes_draw m w d hd);
      picks = λ d s hd hs. image_in m d s hd hs ∙ sym (ap (λ (p : List ℕ). get_or p s s) (picked d hd) ∙ permutation_at m d s s hs);
    }
