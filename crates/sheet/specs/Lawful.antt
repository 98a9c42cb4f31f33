-- A sheet that passes is a lawful script.
use Rattle.std.specs.Prelude.{◌≡◌, ℕ, zero, suc, ◌+◌, ◌-◌, ◌*◌, ◌<◌, ◌≤◌, Bool, true, ◌⊎◌, List, [], ◌∷◌, ◌++◌, length, take, drop, Some, None, Option, nat_eq, slice_index, refl}
use Rattle.std.proofs.Common.{arith, inl, inr, ⊎_elim, sym, ap, ◌∙◌, subst}
use Rattle.std.proofs.lemmas.List.{take_at, drop_at, length-drop}
use Rattle.std.proofs.ByRecursion.{All-weaker, All-from_get_or}
use Rattle.std.proofs.lemmas.Bool.{cases_order, not-false, false≢true}
use Rattle.std.specs.List.{flat_map}
use Rattle.cards.specs.Shuffles.{entries_of, weights}
use Rattle.shuffles.specs.Positions.{distinct_range}
use Rattle.script.specs.Model as model
use Rattle.script.specs.Model.{LawfulScript, LawfulAction, LawfulBranch, Onward}
use Rattle.heads.specs.declared.head.Head.{Head}
use Rattle.format.specs.Form.{wrong, ends, listed}
use Rattle.heads.specs.Heads.{deck_meaning}
use Rattle.format.specs.Kinds.{form_at, code_rule}
use Rattle.format.specs.Parts.{parts}
use Rattle.format.proofs.Inversion.{byte_fits, ends_fits, listed_fits}
use Rattle.writing.specs.Writing.{Line, permute, cut, explicit, turn, committed, opened, line_bytes, entry_bytes, branch_bytes, KeepsBranch, KeepsLine}
use Rattle.writing.proofs.Frames.{line_reads}
use Rattle.sheet.specs.First.{first, given, value_or}
use Rattle.sheet.specs.Lines.{left, frame, no_more, line_count}
use Rattle.sheet.specs.Scripts.{head, codes, action, action_of, branches_of, script_of}
use Rattle.sheet.specs.Verdicts.{verdict, is_result, kind_at, line_fault}
use Rattle.sheet.specs.Firsts.{or_else_some, given_none, given_some, mapped_none, first_zero, first_none_each, first_suc, some_none}
use Rattle.sheet.specs.Passed.{passed, head_known, layout_known}
use Rattle.sheet.specs.Passing.{frame_later}
use Rattle.sheet.specs.Rebuilding.{entries_back, branches_back, weights_few, permuting}

-- what follows the places in a frame of an explicit shuffle or a turn
split_places : (ps bs : List ℕ) (c n : ℕ) → length ps ≡ n
    → (take n (ps ++ c ∷ bs) ≡ ps) × (drop 1 (drop n (ps ++ c ∷ bs)) ≡ bs)
split_places ps bs c n l = (take_at ps (c ∷ bs) n l, ap (drop 1) (drop_at ps (c ∷ bs) n l))

module _ (h : Head) (lines line : ℕ) where
  next_line : suc line < lines → Onward lines line (suc line)
  next_line l = record { later = omega arith; there = l }

  lawful_branch : (t : ℕ) (b : model.Branch) → KeepsBranch h.deck t lines line b → LawfulBranch lines line t b
  lawful_branch t b k = record { shown = k.long; onward = record { later = k.later; there = k.there } }

  -- a line that keeps its rules acts lawfully; it is a result, or a line comes after it
  pub lawful_line : (x : Line) → KeepsLine h lines line x → (is_result (slice_index (line_bytes x) 0) ≡ true) ⊎ (suc line < lines)
      → LawfulAction h.cards lines line (action_of line (parts (line_bytes x)))
  lawful_line (permute ps) k (inl r) = absurd (false≢true r)
  lawful_line (permute ps) k (inr n) = (permuting h.cards ps k.0 k.1, next_line n)
  lawful_line (cut m q ps) k (inl r) = absurd (false≢true r)
  lawful_line (cut m q ps) k (inr n) = (omega (arith, k.some_slots), (omega (arith, k.few_slots), next_line n))
  lawful_line (explicit m q ps es) k (inl r) = absurd (false≢true r)
  lawful_line (explicit m q ps es) k (inr n) =
      let s = split_places ps (flat_map entry_bytes es) (length es) (q * m) k.0.long in
      let w = weights_few q es k.1.1.1 in
      let e : weights (entries_of q (drop 1 (drop (q * m) (ps ++ length es ∷ flat_map entry_bytes es)))) ≡ weights es
      = ap (λ bs. weights (entries_of q bs)) s.1 ∙ ap weights (entries_back q es k.1.1.1) in
      (rw e (omega (arith, w.0, k.1.0)), (rw e (omega (arith, w.1, k.1.1.0)), next_line n))
  lawful_line (turn ps bs) k c =
      let s = split_places ps (flat_map branch_bytes bs) (length bs) (length ps) refl in
      let lengths = All-weaker (KeepsBranch h.deck (length ps) lines line) (λ b. length b.marks ≡ length ps) (λ b p. p.long) bs k.each in
      let whole : LawfulAction h.cards lines line (model.turn ps bs) = (
        k.some,
        (
          All-from_get_or (λ p. (1 ≤ p) × (p ≤ h.cards)) ps 0 (λ i l. (k.positive i l, k.inside i l)),
          All-weaker (KeepsBranch h.deck (length ps) lines line) (LawfulBranch lines line (length ps)) (lawful_branch (length ps)) bs k.each,
        ),
      ) in
      let back : branches_of (length ps) (drop 1 (drop (length ps) (ps ++ length bs ∷ flat_map branch_bytes bs))) ≡ bs
      = ap (branches_of (length ps)) s.1 ∙ branches_back (length ps) bs lengths in
      let e : model.turn (take (length ps) (ps ++ length bs ∷ flat_map branch_bytes bs))
      (branches_of (length (take (length ps) (ps ++ length bs ∷ flat_map branch_bytes bs))) (drop 1 (drop (length ps) (ps ++ length bs ∷ flat_map branch_bytes bs))))
      ≡ model.turn ps bs
      = ap (λ x. model.turn x (branches_of (length x) (drop 1 (drop (length ps) (ps ++ length bs ∷ flat_map branch_bytes bs))))) s.0
      ∙ ap (model.turn ps) back in
      subst (LawfulAction h.cards lines line) (sym e) whole
  lawful_line (committed a b) k c =
      let i = distinct_range 1 h.cards (a ∷ b ∷ []) k 0 (omega arith) in
      let j = distinct_range 1 h.cards (a ∷ b ∷ []) k 1 (omega arith) in
      (i, j)
  lawful_line (opened v) k c = omega arith

-- the number of lines
found_below : (n : ℕ) (f : ℕ → Bool) (x : ℕ) → first n (λ l. given (f l) l) ≡ Some x → x < n
found_below zero f x e = absurd (some_none x _ e (first_zero (λ l. given (f l) l)))
found_below (suc n) f x e =
    ⊎_elim
    (λ p. let q = found_below n f x p in omega arith)
    (λ p. let q = given_some (f n) n x p in omega arith)
    (or_else_some _ _ x (sym (first_suc (λ l. given (f l) l) n) ∙ e))

counted_below : (o : Option ℕ) → ((x : ℕ) → o ≡ Some x → x < 65) → value_or 0 o ≤ 64
counted_below None f = omega arith
counted_below (Some x) f = let p = f x refl in omega arith

module _ (sheet : List ℕ) (e : verdict sheet ≡ None) where
  pub few_lines : line_count sheet ≤ 64
  few_lines = counted_below _ (λ x p. found_below 65 (λ l. no_more (left sheet l)) x p)

  laid_all : length (codes sheet) ≡ (head sheet).cards
  laid_all =
      let a = byte_fits (nat_eq 2) (λ _. listed (head sheet).cards (code_rule (deck_meaning (head sheet).deck) (head sheet).players) [] (λ _. ends)) 0 (frame sheet 1) (layout_known sheet e) in
      let p = listed_fits (code_rule (deck_meaning (head sheet).deck) (head sheet).players) (λ _. ends) (head sheet).cards 1 [] (codes sheet) a.1.1 in
      let nil = ends_fits (1 + (head sheet).cards) (drop (head sheet).cards (codes sheet)) p.rest in
      let k : length (codes sheet) - (head sheet).cards ≡ 0 = sym (length-drop (head sheet).cards (codes sheet)) ∙ ap length nil in
      omega (arith, p.long, k)

  pub line_kept : (line : ℕ) → 2 ≤ line → line < line_count sheet → wrong 0 (form_at (head sheet) (line_count sheet) line) (frame sheet line) ≡ None
  line_kept line l k =
      let p = passed sheet e in
      let q = first_none_each (line_fault sheet) (line_count sheet) p.framed line k in
      mapped_none _ _ (sym (frame_later (head sheet) (line_count sheet) line (frame sheet line) l) ∙ q)

  last_result : (line : ℕ) → line < line_count sheet → (is_result (kind_at sheet line) ≡ true) ⊎ (suc line < line_count sheet)
  last_result line l =
      let p = passed sheet e in
      let r : is_result (kind_at sheet (line_count sheet - 1)) ≡ true = not-false _ (given_none _ _ p.ended) in
      ⊎_elim
      (λ q. inl (subst (λ k. is_result (kind_at sheet k) ≡ true) (let z : line_count sheet - 1 ≡ line = omega arith in z) r))
      (⊎_elim (λ q. inr q) (λ q. absurd (omega arith)))
      (cases_order (suc line) (line_count sheet))

  lawful_action : (line : ℕ) → 2 ≤ line → line < line_count sheet → LawfulAction (head sheet).cards (line_count sheet) line (action sheet line)
  lawful_action line l k =
      let r = line_reads (head sheet) (line_count sheet) line l (omega arith) (frame sheet line) (line_kept line l k) in
      let c : (is_result (slice_index (line_bytes r.0) 0) ≡ true) ⊎ (suc line < line_count sheet)
      = subst (λ b. (is_result (slice_index b 0) ≡ true) ⊎ (suc line < line_count sheet)) (sym r.1.0) (last_result line k) in
      subst (λ b. LawfulAction (head sheet).cards (line_count sheet) line (action_of line (parts b))) r.1.0
      (lawful_line (head sheet) (line_count sheet) line r.0 r.1.1 c)

  pub lawful_script : LawfulScript (script_of sheet)
  lawful_script =
      let p = passed sheet e in
      let k = head_known sheet e in
      record {
        some_cards = k.some_cards;
        few_cards = k.few_cards;
        some_players = k.some_players;
        few_players = k.few_players;
        laid = laid_all;
        some_line = p.many;
        few_lines = few_lines;
        acts = lawful_action;
      }
