-- What is written of a run of rows by joining one row.
use Rattle.std.proofs.Common.{◌≡◌, ℕ, ◌+◌, ◌-◌, ◌<◌, ◌≤◌, List, [], ◌∷◌, ◌++◌, length, get_or, take, drop, set, sym, ap, ◌∙◌, subst, inl, inr, arith}
use lib.Seq.{take-set-lt}
use borrow.Rule.Slice.PartMut.{put_mid}
use Rattle.std.specs.List.{insert}
use Rattle.std.proofs.lemmas.List.{length-map, length-set, length-take-le, length-take, length-drop, drop-set-lt, get_or-take, set_at, take-take, take_at, drop_at, drop-drop, drop_all, drop_more, append_assoc}
use Rattle.std.proofs.lemmas.Bool.{cases_eq}
use Rattle.std.proofs.lemmas.Slice.{between_is}
use Rattle.std.proofs.lemmas.List.Edits.{length-insert}
use Rattle.protocol.specs.States.{added, join}
use Rattle.rows.specs.declared.row.Row as code
use Rattle.rows.specs.Views.{row_view, rows_view, sequence_at, Written}
use Rattle.rows.proofs.Order.{join_new, join_same, merged}

abbrev pub past : code.Row
past = record { sequence = 0; weights = [] }

length_view : (ys : List code.Row) → length (rows_view ys) ≡ length ys
length_view ys = length-map ys row_view

module _ (rows : List code.Row) (len i : ℕ) (r : code.Row) (run : List code.Row) (is : run ≡ take len rows) (below : (k : ℕ) → k < i → sequence_at run k < r.sequence) where
  lower : (k : ℕ) → k < i → sequence_at (take len rows) k < r.sequence
  lower k h = subst (λ (xs : List code.Row). sequence_at xs k < r.sequence) is (below k h)

  pub written_same : (s : List ℕ) → len ≤ length rows → i < len → (get_or rows i past).sequence ≡ r.sequence → s ≡ added (get_or rows i past).weights r.weights → Written len (join (row_view r) (rows_view (take len rows))) rows (set rows i (record { sequence = (get_or rows i past).sequence; weights = s }))
  written_same s fits l e f =
      let new : code.Row = record { sequence = (get_or rows i past).sequence; weights = s } in
      let at : get_or (take len rows) i past ≡ get_or rows i past = get_or-take len rows i past l in
      let long : length (take len rows) ≡ len = length-take-le len rows fits in
      let q : join (row_view r) (rows_view (take len rows)) ≡ rows_view (set (take len rows) i (merged (get_or (take len rows) i past) r)) = join_same r (take len rows) i past (omega arith) lower (ap (λ (x : code.Row). x.sequence) at ∙ e) in
      let m : merged (get_or (take len rows) i past) r ≡ new = ap (λ (x : code.Row). merged x r) at ∙ ap (λ (w : List ℕ). record { sequence = (get_or rows i past).sequence; weights = w }) (sym f) in
      let g : join (row_view r) (rows_view (take len rows)) ≡ rows_view (set (take len rows) i new) = q ∙ ap (λ (x : code.Row). rows_view (set (take len rows) i x)) m in
      record {
        count = sym (ap length g ∙ length_view (set (take len rows) i new) ∙ length-set (take len rows) i new ∙ long);
        room = fits;
        here = ap rows_view (take-set-lt len rows i new l) ∙ sym g;
        rest = drop-set-lt len rows i new l;
      }

  -- where the row at i, which is not below, is not the row's own, it is above
  pub apart : ((k : ℕ) → i ≤ k → k < length run → r.sequence ≤ sequence_at run k) → len ≤ length rows → i < len → ((get_or rows i past).sequence ≡ r.sequence → ⊥) → r.sequence < sequence_at (take len rows) i
  apart above fits l ne =
      let at : sequence_at (take len rows) i ≡ (get_or rows i past).sequence = ap (λ (x : code.Row). x.sequence) (get_or-take len rows i past l) in
      let n : length run ≡ len = ap length is ∙ length-take-le len rows fits in
      let u : r.sequence ≤ sequence_at (take len rows) i = subst (λ (xs : List code.Row). r.sequence ≤ sequence_at xs i) is (above i (omega arith) (omega arith)) in
      elim (cases_eq (sequence_at (take len rows) i) r.sequence) [
        | inl e ↦ absurd (ne (sym at ∙ e))
        | inr d ↦ omega arith
      ]

  module _ (fits : len ≤ length rows) (l : i ≤ len) (above : i < len → r.sequence < sequence_at (take len rows) i) where
    long : length (take len rows) ≡ len
    long = length-take-le len rows fits

    put_in : join (row_view r) (rows_view (take len rows)) ≡ rows_view (insert (take len rows) i r)
    put_in = join_new r (take len rows) i (omega (arith, long)) lower (λ h. above (omega (arith, long)))

    pub joined_length : length (join (row_view r) (rows_view (take len rows))) ≡ len + 1
    joined_length =
        ap length put_in ∙ length_view (insert (take len rows) i r) ∙ length-insert (take len rows) i r (omega (arith, long)) ∙ ap (λ n. n + 1) long

    pub written_new : (part after : List code.Row) → len < length rows → part ≡ take (len + 1 - i) (drop i rows) → after ≡ set (put_mid i (len + 1 - i) rows (drop (length part - 1) part ++ take (length part - 1) part)) i r → Written (len + 1) (join (row_view r) (rows_view (take len rows))) rows after
    written_new part after more p a =
        let k : ℕ = len + 1 - i in
        let n : length part ≡ k = ap length p ∙ length-take k (drop i rows) ∙ (let d = length-drop i rows in omega arith) in
        let one : drop (length part - 1) part ≡ get_or part (length part - 1) past ∷ [] =
        drop_more part (length part - 1) past (omega arith) ∙ ap (λ (xs : List code.Row). get_or part (length part - 1) past ∷ xs) (drop_all (length part - 1 + 1) part (omega arith)) in
        let moved : List code.Row = take (length part - 1) part in
        let tail : List code.Row = drop k (drop i rows) in
        let front : length (take i rows) ≡ i = length-take-le i rows (omega arith) in
        let s : after ≡ take i rows ++ r ∷ (moved ++ tail) =
        a ∙ ap (λ (xs : List code.Row). set (take i rows ++ ((xs ++ moved) ++ tail)) i r) one
        ∙ set_at (take i rows) (get_or part (length part - 1) past) (moved ++ tail) r i front in
        let kept : moved ≡ drop i (take len rows) =
        ap (λ (xs : List code.Row). take (length part - 1) xs) p ∙ take-take (length part - 1) k (drop i rows) (omega arith)
        ∙ ap (λ m. take m (drop i rows)) (let q : length part - 1 ≡ len - i = omega arith in q) ∙ between_is rows i len in
        let same-front : take i rows ≡ take i (take len rows) = sym (take-take i len rows l) in
        let t : after ≡ insert (take len rows) i r ++ tail =
        s ∙ sym (append_assoc (take i rows) (r ∷ moved) tail) ∙ ap (λ (xs : List code.Row). (take i rows ++ r ∷ xs) ++ tail) kept
        ∙ ap (λ (xs : List code.Row). (xs ++ r ∷ drop i (take len rows)) ++ tail) same-front in
        let size : length (insert (take len rows) i r) ≡ len + 1 = length-insert (take len rows) i r (omega (arith, long)) ∙ ap (λ n. n + 1) long in
        record {
          count = sym joined_length;
          room = omega arith;
          here = ap rows_view (ap (take (len + 1)) t ∙ take_at (insert (take len rows) i r) tail (len + 1) size) ∙ sym put_in;
          rest = ap (drop (len + 1)) t ∙ drop_at (insert (take len rows) i r) tail (len + 1) size ∙ drop-drop k i rows ∙ ap (λ m. drop m rows) (let q : i + k ≡ len + 1 = omega arith in q);
        }
