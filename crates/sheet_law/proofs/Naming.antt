-- What is read from the bytes of a writing is what it names.
use Rattle.std.proofs.Common.{◌≡◌, ℕ, zero, suc, ◌+◌, ◌-◌, ◌%◌, ◌<◌, ◌≤◌, true, ltb, List, [], ◌∷◌, ◌++◌, map, length, get_or, drop, sym, refl, ap, ◌∙◌, subst, ⊎_elim, arith}
use Rattle.std.proofs.ByRecursion.{All-weaker}
use Rattle.std.proofs.lemmas.List.{take_at, drop_at, length-map, get_or-map, get_or_past, get_or_default}
use Rattle.std.proofs.lemmas.Bool.{and_parts, cond-true, cond-false, cases_lt, lt-ltb, le-ltb}
use Rattle.std.specs.List.{flat_map}
use Rattle.cards.specs.Shuffles as shuffles
use Rattle.cards.specs.Shuffles.{ShuffleMeaning, Entry, still, cut_fits, entries_fit, spelled, sound_entries, weights, piles, places}
use Rattle.shuffles.specs.Entries.{lawful_explicit, spelled_first, spelled_later, spelled_sound}
use Rattle.shuffles.specs.Lawful.{lawful_cut}
use Rattle.script.specs.Model as model
use Rattle.heads.specs.declared.head.Head.{Head}
use Rattle.format.specs.Parts as frames
use Rattle.format.specs.Parts.{parts}
use Rattle.writing.specs.Writing.{Line, permute, cut, explicit, turn, committed, opened, line_bytes, entry_bytes, branch_bytes, KeepsBranch, KeepsPiles, KeepsLine}
use Rattle.sheet.specs.Lines.{frame}
use Rattle.sheet.specs.Scripts.{action, action_of, output_of, script_of}
use Rattle.sheet.specs.OwnShuffles.{own_shuffle, shuffle_of}
use Rattle.sheet.specs.Rebuilding.{entries_back, branches_back}
use Rattle.sheet_law.specs.Whole as whole
use Rattle.sheet_law.specs.Whole.{Writing, writing_bytes, KeepsRules}
use Rattle.sheet_law.specs.Named.{line_action, line_shuffle, action_named, shuffle_named, script_named, SameScript, MovesPiles, drawn, Says, ReadAsNamed, NamingLaw}
use Rattle.sheet_law.proofs.Framing.{frame_join}
use Rattle.sheet_law.proofs.Deciding.{count, head_is}
use Rattle.sheet_law.proofs.Fitting.{slots_fit, entries_are_fit, cut_width, cut_total, explicit_width, explicit_total, entries_part}
use Rattle.sheet_law.proofs.Moving.{moves}

-- what follows the places of a turn
turn_part : (ps bs : List ℕ) (c : ℕ) → parts (0x20 ∷ length ps ∷ ps ++ c ∷ bs) ≡ frames.turn ps bs
turn_part ps bs c =
    ap (λ xs. frames.turn xs (drop 1 (drop (length ps) (ps ++ c ∷ bs)))) (take_at ps (c ∷ bs) (length ps) refl)
    ∙ ap (λ xs. frames.turn ps (drop 1 xs)) (drop_at ps (c ∷ bs) (length ps) refl)

-- a line that keeps its rules, read from its bytes
module _ (h : Head) (lines line : ℕ) where
  acts_back : (x : Line) → KeepsLine h lines line x → action_of line (parts (line_bytes x)) ≡ line_action line x
  acts_back (permute ps) k = refl
  acts_back (cut m q ps) k = refl
  acts_back (explicit m q ps es) k =
      ap (action_of line) (entries_part m q ps (flat_map entry_bytes es) (length es) k.0.long)
      ∙ ap (λ xs. model.shuffle (weights xs) (suc line)) (entries_back q es k.1.1.1)
  acts_back (turn ps bs) k =
      let lengths = All-weaker (KeepsBranch h.deck (length ps) lines line) (λ b. length b.marks ≡ length ps) (λ b p. p.long) bs k.each in
      ap (action_of line) (turn_part ps (flat_map branch_bytes bs) (length bs))
      ∙ ap (model.turn ps) (branches_back (length ps) bs lengths)
  acts_back (committed l r) k = refl
  acts_back (opened v) k = refl

  shuffles_back : (x : Line) → KeepsLine h lines line x → shuffle_of h.cards (parts (line_bytes x)) ≡ line_shuffle h.cards x
  shuffles_back (permute ps) k = refl
  shuffles_back (cut m q ps) k = refl
  shuffles_back (explicit m q ps es) k =
      ap (shuffle_of h.cards) (entries_part m q ps (flat_map entry_bytes es) (length es) k.0.long)
      ∙ ap (λ xs. places h.cards ps (piles m (shuffles.explicit q xs))) (entries_back q es k.1.1.1)
  shuffles_back (turn ps bs) k =
      ap (shuffle_of h.cards) (turn_part ps (flat_map branch_bytes bs) (length bs))
  shuffles_back (committed l r) k = refl
  shuffles_back (opened v) k = refl

  -- the images that fall to a draw
  drawn_is : (es : List Entry) (d : ℕ) → get_or (spelled es) d [] ≡ drawn es d
  drawn_is [] d = refl
  drawn_is (e ∷ es) d =
      ⊎_elim
      (λ l. spelled_first e es d l ∙ sym (cond-true (ltb d e.weight) _ _ (lt-ltb d e.weight l)))
      (λ l. spelled_later e es d l ∙ (drawn_is es (d - e.weight) ∙ sym (cond-false (ltb d e.weight) _ _ (le-ltb d e.weight l))))
      (cases_lt d e.weight)

  module _ (some : 1 ≤ h.cards) (few : h.cards ≤ 12) where
    says_cut : (m q : ℕ) (ps : List ℕ) → KeepsPiles h.cards m q ps
        → MovesPiles h.cards m q ps q (λ d j. (j + d) % q) (places h.cards ps (piles m (shuffles.cut q)))
    says_cut m q ps k =
        let f = slots_fit q k.some_slots k.few_slots in
        moves h.cards m q ps some few k (shuffles.cut q) (cut_width q f) (lawful_cut q) q (λ d j. (j + d) % q) (cut_total q f)
        (λ d j a b. ap (λ (s : ShuffleMeaning). s.sends d j) (cond-true (cut_fits q) _ _ f))

    says_explicit : (m q : ℕ) (ps : List ℕ) (es : List Entry) → KeepsPiles h.cards m q ps → entries_fit q es ≡ true
        → MovesPiles h.cards m q ps (weights es) (λ d j. get_or (drawn es d) j 0)
        (places h.cards ps (piles m (shuffles.explicit q es)))
    says_explicit m q ps es k f =
        let s : sound_entries q es ≡ true = (and_parts _ _ (and_parts _ _ (and_parts _ _ f).1).0).0 in
        moves h.cards m q ps some few k (shuffles.explicit q es) (explicit_width q es f) (lawful_explicit q es)
        (weights es) (λ d j. get_or (drawn es d) j 0) (explicit_total q es f)
        (λ d j a b.
        let l : length (get_or (spelled es) d []) ≡ q = (spelled_sound q es s d a).0 in
        ap (λ (s : ShuffleMeaning). s.sends d j) (cond-true (entries_fit q es) _ _ f)
        ∙ (get_or_default (get_or (spelled es) d []) j j 0 (subst (λ x. j < x) (sym l) b) ∙ ap (λ is. get_or is j 0) (drawn_is es d)))

    says_line : (x : Line) → KeepsLine h lines line x → Says h.cards x (line_shuffle h.cards x)
    says_line (permute ps) k = refl
    says_line (cut m q ps) k = says_cut m q ps k
    says_line (explicit m q ps es) k =
        says_explicit m q ps es k.0 (entries_are_fit q es k.0.some_slots k.0.few_slots k.1.0 k.1.1.0 k.1.1.1)
    says_line (turn ps bs) k = refl
    says_line (committed l r) k = refl
    says_line (opened v) k = refl

module _ (w : Writing) (k : KeepsRules w) where
  line_in : (i : ℕ) → i < length w.lines → frame (writing_bytes w) (suc (suc i)) ≡ line_bytes (get_or w.lines i (opened 0))
  line_in i l = frame_join (whole.frames w) (suc (suc i)) ∙ get_or-map line_bytes w.lines i (opened 0) [] l

  past_lines : {Y : Type 0} (f : Line → Y) (y : Y) (i : ℕ) → length w.lines ≤ i → get_or (map f w.lines) i y ≡ y
  past_lines f y i l = let e = length-map w.lines f in get_or_past (map f w.lines) i y (omega (arith, e, l))

  no_frame : (i : ℕ) → length w.lines ≤ i → frame (writing_bytes w) (suc (suc i)) ≡ []
  no_frame i l = frame_join (whole.frames w) (suc (suc i)) ∙ past_lines line_bytes [] i l

  acts : (line : ℕ) → action (writing_bytes w) line ≡ action_named w line
  acts zero = ap (λ f. action_of 0 (parts f)) (frame_join (whole.frames w) 0)
  acts (suc zero) = ap (λ f. action_of 1 (parts f)) (frame_join (whole.frames w) 1)
  acts (suc (suc i)) =
      ⊎_elim
      (λ l.
      ap (λ f. action_of (suc (suc i)) (parts f)) (line_in i l)
      ∙ (acts_back w.head (length (whole.frames w)) (suc (suc i)) (get_or w.lines i (opened 0)) (k.each i l)
      ∙ sym (get_or-map (line_action (suc (suc i))) w.lines i (opened 0) model.none l)))
      (λ l.
      ap (λ f. action_of (suc (suc i)) (parts f)) (no_frame i l)
      ∙ sym (past_lines (line_action (suc (suc i))) model.none i l))
      (cases_lt i (length w.lines))

  own_is : (line : ℕ) → own_shuffle (writing_bytes w) line ≡ shuffle_of w.head.cards (parts (frame (writing_bytes w) line))
  own_is line = ap (λ (h : Head). shuffle_of h.cards (parts (frame (writing_bytes w) line))) (head_is w k)

  own_line : (i : ℕ) → i < length w.lines
      → own_shuffle (writing_bytes w) (suc (suc i)) ≡ line_shuffle w.head.cards (get_or w.lines i (opened 0))
  own_line i l =
      own_is (suc (suc i))
      ∙ (ap (λ f. shuffle_of w.head.cards (parts f)) (line_in i l)
      ∙ shuffles_back w.head (length (whole.frames w)) (suc (suc i)) (get_or w.lines i (opened 0)) (k.each i l))

  own_shuffles : (line : ℕ) → own_shuffle (writing_bytes w) line ≡ shuffle_named w line
  own_shuffles zero = own_is 0 ∙ ap (λ f. shuffle_of w.head.cards (parts f)) (frame_join (whole.frames w) 0)
  own_shuffles (suc zero) = own_is 1 ∙ ap (λ f. shuffle_of w.head.cards (parts f)) (frame_join (whole.frames w) 1)
  own_shuffles (suc (suc i)) =
      ⊎_elim
      (λ l. own_line i l ∙ sym (get_or-map (line_shuffle w.head.cards) w.lines i (opened 0) still l))
      (λ l.
      own_is (suc (suc i))
      ∙ (ap (λ f. shuffle_of w.head.cards (parts f)) (no_frame i l)
      ∙ sym (past_lines (line_shuffle w.head.cards) still i l)))
      (cases_lt i (length w.lines))

  same_script : SameScript (script_of (writing_bytes w)) (script_named w)
  same_script = record {
    cards = ap (λ (h : Head). h.cards) (head_is w k);
    players = ap (λ (h : Head). h.players) (head_is w k);
    function = ap (λ (h : Head). h.function) (head_is w k);
    output = ap (λ (h : Head). output_of h.output) (head_is w k);
    codes = ap (drop 1) (frame_join (whole.frames w) 1);
    lines = count w k;
    acts = acts;
  }

  says : (i : ℕ) → i < length w.lines → Says w.head.cards (get_or w.lines i (opened 0)) (own_shuffle (writing_bytes w) (suc (suc i)))
  says i l =
      let a = k.headed.some_cards in
      subst (Says w.head.cards (get_or w.lines i (opened 0))) (sym (own_line i l))
      (says_line w.head (length (whole.frames w)) (suc (suc i)) (omega (arith, a)) k.headed.few_cards (get_or w.lines i (opened 0)) (k.each i l))

  pub read_as_named : ReadAsNamed w
  read_as_named = record { headed = head_is w k; script = same_script; shuffles = own_shuffles; says = says }

pub naming_law : NamingLaw
naming_law = read_as_named
