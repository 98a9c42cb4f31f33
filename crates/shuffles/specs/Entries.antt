-- Entries read from bytes, and the shuffle that they list.
use Rattle.std.specs.Prelude.{◌≡◌, ℕ, zero, suc, ◌+◌, ◌-◌, ◌<◌, ◌≤◌, Bool, true, false, ◌&&◌, List, [], ◌∷◌, length, get_or, take, drop, replicate, ◌≢◌, nat_le, slice_index, slice_index_or, refl}
use Rattle.std.proofs.Common.{sym, ap, subst, ◌∙◌, ⊎_elim, arith}
use Rattle.std.proofs.lemmas.Bool.{cases_lt, and_parts, and_from, and_left, and_right, leb-true, le-leb, lt-leb, eqb-true, eq-eqb, ne_eqb, cond_both}
use Rattle.std.proofs.lemmas.List.{length-take, length-drop, length-replicate, get_or_append_left, get_or-append_right, get_or-replicate, get_or_default, take_rest}
use Rattle.std.proofs.lemmas.List.Sums.{sum_by-cons}
use Rattle.cards.specs.Lists.{distinct}
use Rattle.cards.specs.Shuffles.{LawfulShuffle, Entry, entries_in, entries_of, spelled, weights, sound_entries, entries_fit, explicit}
use Rattle.shuffles.specs.Positions.{distinct_range, distinct_apart}
use Rattle.shuffles.specs.Lawful.{lawful_still}

-- more turns than bytes add no entry
pub entries_turns : (n m q : ℕ) (bs : List ℕ) → length bs ≤ n → length bs ≤ m → entries_in n q bs ≡ entries_in m q bs
entries_turns zero zero q bs hn hm = refl
entries_turns zero (suc m) q [] hn hm = refl
entries_turns zero (suc m) q (w ∷ bs) hn hm = absurd (omega arith)
entries_turns (suc n) zero q [] hn hm = refl
entries_turns (suc n) zero q (w ∷ bs) hn hm = absurd (omega arith)
entries_turns (suc n) (suc m) q [] hn hm = refl
entries_turns (suc n) (suc m) q (w ∷ bs) hn hm =
    ap (λ es. record { weight = w; images = take q bs } ∷ es)
    (entries_turns n m q (drop q bs) (omega (arith, length-drop q bs)) (omega (arith, length-drop q bs)))

-- the first entry, and the rest
pub entries_cons : (q w : ℕ) (bs : List ℕ) → entries_of q (w ∷ bs) ≡ record { weight = w; images = take q bs } ∷ entries_of q (drop q bs)
entries_cons q w bs =
    ap (λ es. record { weight = w; images = take q bs } ∷ es)
    (entries_turns (length bs) (length (drop q bs)) q (drop q bs) (omega (arith, length-drop q bs)) (omega arith))

pub entries_step : (q : ℕ) (xs : List ℕ) → 0 < length xs → entries_of q xs ≡ record { weight = slice_index xs 0; images = take q (drop 1 xs) } ∷ entries_of q (drop q (drop 1 xs))
entries_step q [] h = absurd (omega arith)
entries_step q (w ∷ bs) h = entries_cons q w bs

pub entries_none : (q : ℕ) (xs : List ℕ) → length xs ≤ 0 → entries_of q xs ≡ []
entries_none q [] h = refl
entries_none q (w ∷ bs) h = absurd (omega arith)

-- the entry to which a draw falls
pub spelled_first : (e : Entry) (es : List Entry) (d : ℕ) → d < e.weight → slice_index_or (spelled (e ∷ es)) d [] ≡ e.images
spelled_first e es d h =
    get_or_append_left (replicate e.weight e.images) (spelled es) [] d (subst (λ n. d < n) (sym (length-replicate e.weight e.images)) h)
    ∙ get_or-replicate e.weight d e.images [] h

pub spelled_later : (e : Entry) (es : List Entry) (d : ℕ) → e.weight ≤ d → slice_index_or (spelled (e ∷ es)) d [] ≡ slice_index_or (spelled es) (d - e.weight) []
spelled_later e es d h = get_or-append_right (replicate e.weight e.images) (spelled es) e.weight d [] (length-replicate e.weight e.images) h

pub record Sound (q : ℕ) (e : Entry) (es : List Entry) : Type 0 where
  pub heavy : 1 ≤ e.weight
  pub long : length e.images ≡ q
  pub apart : distinct 0 (q - 1) e.images ≡ true
  pub rest : sound_entries q es ≡ true

pub sound_parts : (q : ℕ) (e : Entry) (es : List Entry) → sound_entries q (e ∷ es) ≡ true → Sound q e es
sound_parts q e es h =
    let p = and_parts _ _ h in
    let r = and_parts _ _ p.0 in
    let s = and_parts _ _ r.1 in
    record { heavy = leb-true 1 _ r.0; long = eqb-true _ _ s.0; apart = s.1; rest = p.1 }

-- each draw below the total falls to a permutation of the slots
pub spelled_sound : (q : ℕ) (es : List Entry) → sound_entries q es ≡ true → (d : ℕ) → d < weights es → (length (slice_index_or (spelled es) d []) ≡ q) × (distinct 0 (q - 1) (slice_index_or (spelled es) d []) ≡ true)
spelled_sound q [] h d hd = absurd (omega arith)
spelled_sound q (e ∷ es) h d hd =
    let s = sound_parts q e es h in
    ⊎_elim
    (λ lt. subst (λ (is : List ℕ). (length is ≡ q) × (distinct 0 (q - 1) is ≡ true)) (sym (spelled_first e es d lt)) (s.long, s.apart))
    (λ ge.
    subst (λ (is : List ℕ). (length is ≡ q) × (distinct 0 (q - 1) is ≡ true)) (sym (spelled_later e es d ge))
    (spelled_sound q es s.rest (d - e.weight) (omega (arith, sum_by-cons (λ (x : Entry). x.weight) e es))))
    (cases_lt d e.weight)

pub explicit_inside : (q : ℕ) (is : List ℕ) → length is ≡ q → distinct 0 (q - 1) is ≡ true → 1 ≤ q → (s : ℕ) → s < q → slice_index_or is s s < q
explicit_inside q is long apart low s hs =
    let hs' : s < length is = subst (λ n. s < n) (sym long) hs in
    let r = distinct_range 0 (q - 1) is apart s hs' in
    let e = get_or_default is s s 0 hs' in
    omega (arith, r.1, e)

explicit_apart : (q : ℕ) (is : List ℕ) → length is ≡ q → distinct 0 (q - 1) is ≡ true → (s t : ℕ) → s < q → t < q → slice_index_or is s s ≡ slice_index_or is t t → s ≡ t
explicit_apart q is long apart s t hs ht e =
    let hs' : s < length is = subst (λ n. s < n) (sym long) hs in
    let ht' : t < length is = subst (λ n. t < n) (sym long) ht in
    distinct_apart 0 (q - 1) is apart s t hs' ht' (get_or_default is s 0 s hs' ∙ e ∙ get_or_default is t t 0 ht')

pub lawful_explicit : (q : ℕ) (es : List Entry) → LawfulShuffle (explicit q es)
lawful_explicit q es =
    cond_both (entries_fit q es) _ _ LawfulShuffle
    (λ e.
    let p = and_parts _ _ e in
    let r = and_parts _ _ p.0 in
    let t = and_parts _ _ p.1 in
    let u = and_parts _ _ t.0 in
    let low : 1 ≤ q = leb-true 1 q r.0 in
    let sound : (d : ℕ) → d < weights es → (length (slice_index_or (spelled es) d []) ≡ q) × (distinct 0 (q - 1) (slice_index_or (spelled es) d []) ≡ true) = spelled_sound q es u.0 in
    record {
      some_slot = low;
      few_slots = leb-true q 12 r.1;
      some_draw = leb-true 1 _ t.1;
      few_draws = leb-true _ 65535 u.1;
      inside = λ d s hd hs. explicit_inside q (slice_index_or (spelled es) d []) (sound d hd).0 (sound d hd).1 low s hs;
      one_to_one = λ d s t hd hs ht. explicit_apart q (slice_index_or (spelled es) d []) (sound d hd).0 (sound d hd).1 s t hs ht;
    })
    (λ e. lawful_still)

-- A list of bytes taken apart: its first entry has the images `is`, and the bytes `next` come after it.
pub record Split (q : ℕ) (xs is next : List ℕ) : Type 0 where
  pub some : 0 < length xs
  pub room : q ≤ length (drop 1 xs)
  pub front : is ≡ take q (drop 1 xs)
  pub back : next ≡ drop q (drop 1 xs)

-- as a slice pattern and a split give it
pub splitting : (q w : ℕ) (xs is next : List ℕ) → 0 < length xs → w ≡ q → w ≤ length (take (length xs - 1) (drop 1 xs)) → is ≡ take w (take (length xs - 1) (drop 1 xs)) → next ≡ drop w (take (length xs - 1) (drop 1 xs)) → Split q xs is next
splitting q w xs is next some e room front back =
    let r = take_rest xs 1 in
    record {
      some = some;
      room = subst (λ (n : ℕ). n ≤ length (drop 1 xs)) e (subst (λ (ys : List ℕ). w ≤ length ys) r room);
      front = front ∙ ap (λ (ys : List ℕ). take w ys) r ∙ ap (λ (n : ℕ). take n (drop 1 xs)) e;
      back = back ∙ ap (λ (ys : List ℕ). drop w ys) r ∙ ap (λ (n : ℕ). drop n (drop 1 xs)) e;
    }

module _ (q : ℕ) (xs is next : List ℕ) (s : Split q xs is next) where
  pub split_entries : entries_of q xs ≡ record { weight = slice_index xs 0; images = is } ∷ entries_of q next
  split_entries =
      entries_step q xs s.some
      ∙ ap (λ (ys : List ℕ). record { weight = slice_index xs 0; images = ys } ∷ entries_of q (drop q (drop 1 xs))) (sym s.front)
      ∙ ap (λ (ys : List ℕ). record { weight = slice_index xs 0; images = is } ∷ entries_of q ys) (sym s.back)

  pub split_long : length is ≡ q
  split_long = let e = length-take q (drop 1 xs) in let f = ap length s.front in omega (arith, e, f, s.room)

  pub split_sound : sound_entries q (entries_of q xs) ≡ ((nat_le 1 (slice_index xs 0) && distinct 0 (q - 1) is) && sound_entries q (entries_of q next))
  split_sound =
      ap (sound_entries q) split_entries
      ∙ ap (λ (t : Bool). (nat_le 1 (slice_index xs 0) && (t && distinct 0 (q - 1) is)) && sound_entries q (entries_of q next)) (eq-eqb _ _ split_long)

  pub split_weights : weights (entries_of q xs) ≡ slice_index xs 0 + weights (entries_of q next)
  split_weights = ap weights split_entries ∙ sum_by-cons (λ (x : Entry). x.weight) (record { weight = slice_index xs 0; images = is }) (entries_of q next)

  pub split_first : (d : ℕ) → d < slice_index xs 0 → slice_index_or (spelled (entries_of q xs)) d [] ≡ is
  split_first d h = ap (λ (es : List Entry). get_or (spelled es) d []) split_entries ∙ spelled_first _ (entries_of q next) d h

  pub split_later : (d : ℕ) → slice_index xs 0 ≤ d → slice_index_or (spelled (entries_of q xs)) d [] ≡ slice_index_or (spelled (entries_of q next)) (d - slice_index xs 0) []
  split_later d h = ap (λ (es : List Entry). get_or (spelled es) d []) split_entries ∙ spelled_later _ (entries_of q next) d h

  -- an entry of weight 0, or whose images are no permutation, spoils the list
  pub split_light : get_or xs 0 0 ≡ 0 → sound_entries q (entries_of q xs) ≡ false
  split_light e = let h : get_or xs 0 0 < 1 = omega arith in split_sound ∙ and_left _ _ (and_left _ _ (lt-leb 1 _ h))

  pub split_mixed : distinct 0 (q - 1) is ≡ false → sound_entries q (entries_of q xs) ≡ false
  split_mixed e = split_sound ∙ and_left _ _ (and_right _ _ e)

  pub split_good : (slice_index xs 0 ≢ 0) → distinct 0 (q - 1) is ≡ true → sound_entries q (entries_of q xs) ≡ sound_entries q (entries_of q next)
  split_good ne e = split_sound ∙ ap (λ (t : Bool). t && sound_entries q (entries_of q next)) (and_from _ _ (let h : 1 ≤ get_or xs 0 0 = omega arith in le-leb 1 _ h) e)

-- an entry without room for its images spoils the list
pub short_entry : (q w : ℕ) (xs : List ℕ) → 0 < length xs → w ≡ q → length (take (length xs - 1) (drop 1 xs)) < w → sound_entries q (entries_of q xs) ≡ false
short_entry q w xs some e short =
    let h : length (drop 1 xs) < q = subst (λ (n : ℕ). length (drop 1 xs) < n) e (subst (λ (ys : List ℕ). length ys < w) (take_rest xs 1) short) in
    let ne : length (take q (drop 1 xs)) ≡ q → ⊥ = λ p. omega (arith, length-take q (drop 1 xs)) in
    ap (sound_entries q) (entries_step q xs some)
    ∙ and_left _ _ (and_right _ _ (and_left _ _ (ne_eqb _ _ ne)))

-- room in a sound list
pub sound_room : (q : ℕ) (xs : List ℕ) → 0 < length xs → sound_entries q (entries_of q xs) ≡ true → q ≤ length (take (length xs - 1) (drop 1 xs))
sound_room q xs some h =
    let s = sound_parts q (record { weight = slice_index xs 0; images = take q (drop 1 xs) }) (entries_of q (drop q (drop 1 xs))) (sym (ap (sound_entries q) (entries_step q xs some)) ∙ h) in
    let l : length (take q (drop 1 xs)) ≡ q = s.long in
    let m = length-take q (drop 1 xs) in
    subst (λ (ys : List ℕ). q ≤ length ys) (sym (take_rest xs 1)) (omega (arith, l, m))

pub rest_sound : (q : ℕ) (xs is next : List ℕ) → Split q xs is next → sound_entries q (entries_of q xs) ≡ true → sound_entries q (entries_of q next) ≡ true
rest_sound q xs is next s h =
    (sound_parts q (record { weight = slice_index xs 0; images = is }) (entries_of q next) (sym (ap (sound_entries q) (split_entries q xs is next s)) ∙ h)).rest

-- an image in a list that fits lies in the row
pub explicit_row : (q : ℕ) (es : List Entry) → entries_fit q es ≡ true → (d s : ℕ) → d < weights es → s < q → slice_index_or (slice_index_or (spelled es) d []) s s < 12
explicit_row q es e d s hd hs =
    let p = and_parts _ _ e in
    let r = and_parts _ _ p.0 in
    let u = and_parts _ _ (and_parts _ _ p.1).0 in
    let sound = spelled_sound q es u.0 d hd in
    omega (arith, explicit_inside q _ sound.0 sound.1 (leb-true 1 q r.0) s hs, leb-true q 12 r.1)
