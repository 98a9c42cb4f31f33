-- The marks of cards, set one by one from the first on.
use Rattle.std.proofs.Common.{◌≡◌, ℕ, ◌+◌, ◌-◌, ◌<◌, ◌≤◌, List, ◌++◌, length, get_or, take, drop, set, replicate, sym, ap, ◌∙◌, zero-add, arith}
use lib.Seq.{take-append_seam, drop-append_seam, paste}
use Rattle.std.proofs.lemmas.List.Edits.{paste_more, paste_all}
use Rattle.std.proofs.lemmas.List.{get_or-map, length-map, drop-replicate}
use Rattle.protocol.specs.Machine.{card_at, marks_at}

module _ (row places marks : List ℕ) (i : ℕ) (few : length places ≤ 12) (e : marks ≡ paste (replicate 12 0) 0 (marks_at places row) i) where
  pub mark_set : (mark : ℕ) → i < length places → mark ≡ card_at row (get_or places i 0)
      → set marks i mark ≡ paste (replicate 12 0) 0 (marks_at places row) (i + 1)
  mark_set mark h m =
      let k : i < length (marks_at places row) = rw (length-map places (card_at row)) h in
      let l : 0 + i < 12 = omega arith in
      ap (λ (x : List ℕ). set x i mark) e
      ∙ (ap (λ (x : ℕ). set (paste (replicate 12 0) 0 (marks_at places row) i) i x) (m ∙ sym (get_or-map (card_at row) places i 0 0 h))
      ∙ (ap (λ (x : ℕ). set (paste (replicate 12 0) 0 (marks_at places row) i) x (get_or (marks_at places row) i 0)) (sym (zero-add i))
      ∙ paste_more (replicate 12 0) 0 (marks_at places row) i 0 l k))

  module _ (h : i ≡ length places) where
    all_set : marks ≡ marks_at places row ++ drop (0 + i) (replicate 12 0)
    all_set = e ∙ paste_all (replicate 12 0) 0 (marks_at places row) i (h ∙ sym (length-map places (card_at row)))

    pub marks_first : take (length places) marks ≡ marks_at places row
    marks_first =
        ap (λ (k : ℕ). take k marks) (sym (length-map places (card_at row)))
        ∙ (ap (take (length (marks_at places row))) all_set ∙ take-append_seam (marks_at places row) (drop (0 + i) (replicate 12 0)))

    pub none_after : drop (length places) marks ≡ replicate (12 - length places) 0
    none_after =
        ap (λ (k : ℕ). drop k marks) (sym (length-map places (card_at row)))
        ∙ (ap (drop (length (marks_at places row))) all_set
        ∙ (drop-append_seam (marks_at places row) (drop (0 + i) (replicate 12 0))
        ∙ (drop-replicate (0 + i) 12 0 ∙ ap (λ (k : ℕ). replicate (12 - k) 0) (zero-add i ∙ h))))
