-- Frames one after another, each behind its length byte.
use Rattle.std.proofs.Common.{◌≡◌, ℕ, zero, suc, ◌+◌, ◌<◌, ◌≤◌, true, false, List, [], ◌∷◌, ◌++◌, length, get_or, take, drop, None, sym, refl, ap, ◌∙◌, subst, ⊎_elim, add-one, arith}
use Rattle.std.proofs.lemmas.List.{drop_more, drop_all, get_or_past, take_at, drop_at, length-append, take-append-drop, length-take-le}
use Rattle.std.proofs.lemmas.Bool.{cases_lt, ne_eqb, le-ltb, lt-leb, or_from}
use Rattle.std.specs.List.{flat_map}
use Rattle.sheet.specs.First.{first, given, value_or}
use Rattle.sheet.specs.Lines.{left, frame, first_frame, after_first, bad_length, no_more, line_count}
use Rattle.sheet.specs.Verdicts.{length_fault}
use Rattle.sheet.specs.Firsts.{first_from_each, first_some}
use Rattle.sheet.specs.Passing.{sound_line, sound_length}
use Rattle.sheet.specs.Splitting.{left_zero, left_suc, left_more}
use Rattle.sheet_law.specs.Whole.{framed}

module _ (F : List (List ℕ)) where
  abbrev bytes : List ℕ
  bytes = flat_map framed F

  after_join : (f : List ℕ) (G : List (List ℕ)) → after_first (flat_map framed (f ∷ G)) ≡ flat_map framed G
  after_join f G = drop_at f (flat_map framed G) (length f) refl

  front_join : (f : List ℕ) (G : List (List ℕ)) → first_frame (flat_map framed (f ∷ G)) ≡ f
  front_join f G = take_at f (flat_map framed G) (length f) refl

  pub left_join : (l : ℕ) → left bytes l ≡ flat_map framed (drop l F)
  left_join zero = left_zero bytes
  left_join (suc l) =
      left_suc bytes l ∙ (ap after_first (left_join l)
      ∙ ⊎_elim
      (λ h. ap (λ G. after_first (flat_map framed G)) (drop_more F l [] h)
      ∙ (after_join (get_or F l []) (drop (l + 1) F) ∙ ap (λ n. flat_map framed (drop n F)) (add-one l)))
      (λ h. ap (λ G. after_first (flat_map framed G)) (drop_all l F h)
      ∙ ap (flat_map framed) (sym (drop_all (suc l) F (omega arith))))
      (cases_lt l (length F)))

  pub frame_join : (l : ℕ) → frame bytes l ≡ get_or F l []
  frame_join l =
      ap first_frame (left_join l)
      ∙ ⊎_elim
      (λ h. ap (λ G. first_frame (flat_map framed G)) (drop_more F l [] h) ∙ front_join (get_or F l []) (drop (l + 1) F))
      (λ h. ap (λ G. first_frame (flat_map framed G)) (drop_all l F h) ∙ sym (get_or_past F l [] h))
      (cases_lt l (length F))

  module _ (few : length F ≤ 64) (some : (l : ℕ) → l < length F → 1 ≤ length (get_or F l []))
      (short : (l : ℕ) → l < length F → length (get_or F l []) ≤ 128) where
    good : (f : List ℕ) (G : List (List ℕ)) (l : ℕ) → 1 ≤ length f → length f ≤ 128 → l < 64 → bad_length l (flat_map framed (f ∷ G)) ≡ false
    good f G l a b c =
        or_from _ _ (or_from _ _ (ne_eqb (length f) 0 (λ e. omega (arith, e, a))) (le-ltb 128 (length f) b))
        (or_from _ _ (le-ltb (length (f ++ flat_map framed G)) (length f) (rw (length-append f (flat_map framed G)) (omega arith))) (lt-leb 64 l c))

    pub join_sound : first 65 (length_fault bytes) ≡ None
    join_sound = first_from_each (length_fault bytes) 65 (λ l h.
        let e : bad_length l (left bytes l) ≡ false = ap (bad_length l) (left_join l)
        ∙ ⊎_elim
        (λ k. ap (λ G. bad_length l (flat_map framed G)) (drop_more F l [] k) ∙ good (get_or F l []) (drop (l + 1) F) l (some l k) (short l k) (omega arith))
        (λ k. ap (λ G. bad_length l (flat_map framed G)) (drop_all l F k))
        (cases_lt l (length F)) in
        rw e)

    pub join_count : line_count bytes ≡ length F
    join_count =
        ap (value_or 0)
        (first_some (λ line. given (no_more (left bytes line)) line) (length F) 65 (length F) (omega arith)
        (first_from_each (λ line. given (no_more (left bytes line)) line) (length F) (λ l k.
        let e : no_more (left bytes l) ≡ false = ap no_more (left_join l) ∙ ap (λ G. no_more (flat_map framed G)) (drop_more F l [] k) in rw e))
        (let e : no_more (left bytes (length F)) ≡ true = ap no_more (left_join (length F)) ∙ ap (λ G. no_more (flat_map framed G)) (drop_all (length F) F (omega arith)) in rw e))

-- the frames of a sheet with sound length bytes, put together again
pub rejoined : (sheet : List ℕ) → first 65 (length_fault sheet) ≡ None → (F : List (List ℕ)) (l : ℕ) → length F + l ≤ 64
    → left sheet (length F + l) ≡ [] → ((i : ℕ) → i < length F → 1 ≤ length (left sheet (l + i)))
    → ((i : ℕ) → i < length F → get_or F i [] ≡ frame sheet (l + i)) → flat_map framed F ≡ left sheet l
rejoined sheet s [] l b e m g = sym (subst (λ n. left sheet n ≡ []) (let z : 0 + l ≡ l = omega arith in z) e)
rejoined sheet s (f ∷ F) l b e m g =
    let r = rejoined sheet s F (l + 1) (omega arith)
    (subst (λ n. left sheet n ≡ []) (let z : suc (length F) + l ≡ length F + (l + 1) = omega arith in z) e)
    (λ i h. subst (λ n. 1 ≤ length (left sheet n)) (let z : l + suc i ≡ l + 1 + i = omega arith in z) (m (suc i) (omega arith)))
    (λ i h. g (suc i) (omega arith) ∙ ap (frame sheet) (let z : l + suc i ≡ l + 1 + i = omega arith in z)) in
    let at-l : l + 0 ≡ l = omega arith in
    let f-is : f ≡ frame sheet l = g 0 (omega arith) ∙ ap (frame sheet) at-l in
    ap (λ x. framed x ++ flat_map framed F) f-is
    ∙ (ap (λ x. framed (frame sheet l) ++ x) (r ∙ left_more sheet l)
    ∙ whole (left sheet l) (subst (λ n. 1 ≤ length (left sheet n)) at-l (m 0 (omega arith))) (sound_line sheet s l (omega arith)))
  where
    whole : (xs : List ℕ) → 1 ≤ length xs → bad_length l xs ≡ false → framed (first_frame xs) ++ after_first xs ≡ xs
    whole [] k q = absurd (omega arith)
    whole (n ∷ xs) k q =
        let p = sound_length n xs l q in
        ap (λ x. x ∷ take n xs ++ drop n xs) (length-take-le n xs p.inside) ∙ ap (λ x. n ∷ x) (take-append-drop n xs)
