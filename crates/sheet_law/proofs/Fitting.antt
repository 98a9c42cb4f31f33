-- The layers of a script's own shuffles fit.
use Rattle.std.proofs.Common.{◌≡◌, ℕ, ◌*◌, ◌<◌, ◌≤◌, true, ◌⊎◌, List, [], ◌∷◌, ◌++◌, length, drop, None, sym, refl, ap, ◌∙◌, subst, inl, inr, ⊎_elim, arith}
use Rattle.std.proofs.lemmas.List.{take_at, drop_at}
use Rattle.std.proofs.lemmas.Bool.{and_from, le-leb, eq-eqb, cond-true, cases_lt, false≢true}
use Rattle.std.specs.List.{flat_map, AllByRecursion}
use Rattle.cards.specs.Shuffles as shuffles
use Rattle.cards.specs.Shuffles.{ShuffleMeaning, Entry, cut_fits, entries_fit, entries_of, sound_entries, weights, piles, piles_fit, places, places_fit}
use Rattle.script.specs.Model as model
use Rattle.heads.specs.declared.head.Head.{Head}
use Rattle.format.specs.Parts as frames
use Rattle.format.specs.Parts.{Parts, parts}
use Rattle.writing.specs.Writing.{Line, permute, cut, explicit, turn, committed, opened, line_bytes, entry_bytes, KeepsEntry, KeepsPiles, KeepsLine}
use Rattle.writing.proofs.Frames.{line_reads}
use Rattle.sheet.specs.Lines.{frame, line_count}
use Rattle.sheet.specs.Scripts.{head, action, action_of}
use Rattle.sheet.specs.OwnShuffles.{shuffle_of}
use Rattle.sheet.specs.Products.{shuffles as is_shuffle, total as total_of}
use Rattle.sheet.specs.Verdicts.{verdict}
use Rattle.sheet.specs.Rebuilding.{entries_back, weights_few}
use Rattle.sheet.specs.Passed.{head_known}
use Rattle.sheet.specs.Lawful.{line_kept}
use Rattle.sheet.specs.CountingLemmas.{no_parts}
use Rattle.sheet_law.specs.Owned.{LayersFit, OwnShuffle, OwnShufflesFit}

pub slots_fit : (q : ℕ) → 2 ≤ q → q ≤ 12 → cut_fits q ≡ true
slots_fit q some few = and_from _ _ (le-leb 1 q (omega (arith, some))) (le-leb q 12 few)

sound : (q : ℕ) (es : List Entry) → AllByRecursion (KeepsEntry q) es → sound_entries q es ≡ true
sound q [] k = refl
sound q (e ∷ es) k = and_from _ _ (and_from _ _ (le-leb 1 e.weight k.0.low) k.0.permuted) (sound q es k.1)

pub entries_are_fit : (q : ℕ) (es : List Entry) → 2 ≤ q → q ≤ 12 → 1 ≤ length es → length es ≤ 8
    → AllByRecursion (KeepsEntry q) es → entries_fit q es ≡ true
entries_are_fit q es some few one eight k =
    let w = weights_few q es k in
    and_from _ _ (slots_fit q some few)
    (and_from _ _ (and_from _ _ (sound q es k) (le-leb (weights es) 65535 (omega (arith, w.1, eight)))) (le-leb 1 (weights es) (omega (arith, w.0, one))))

-- piles and places over a shuffle of q slots
module _ (n m q : ℕ) (ps : List ℕ) (some : 1 ≤ n) (few : n ≤ 12) (k : KeepsPiles n m q ps)
    (below : ShuffleMeaning) (w : below.width ≡ q) where
  pub piles_are_fit : piles_fit m below ≡ true
  piles_are_fit =
      and_from _ _ (le-leb 1 m k.some_piles)
      (le-leb (below.width * m) 12 (subst (λ x. x * m ≤ 12) (sym w) (omega (arith, k.inside, few))))

  piled_width : (piles m below).width ≡ q * m
  piled_width = ap (λ (s : ShuffleMeaning). s.width) (cond-true (piles_fit m below) _ _ piles_are_fit) ∙ ap (λ x. x * m) w

  pub places_are_fit : places_fit n ps (piles m below) ≡ true
  places_are_fit =
      and_from _ _ (and_from _ _ (le-leb 1 n some) (le-leb n 12 few))
      (and_from _ _ (eq-eqb (length ps) (piles m below).width (k.long ∙ sym piled_width)) k.apart)

  pub placed_width : (places n ps (piles m below)).width ≡ n
  placed_width = ap (λ (s : ShuffleMeaning). s.width) (cond-true (places_fit n ps (piles m below)) _ _ places_are_fit)

  pub placed_total : (places n ps (piles m below)).total ≡ below.total
  placed_total =
      ap (λ (s : ShuffleMeaning). s.total) (cond-true (places_fit n ps (piles m below)) _ _ places_are_fit)
      ∙ ap (λ (s : ShuffleMeaning). s.total) (cond-true (piles_fit m below) _ _ piles_are_fit)

pub cut_width : (q : ℕ) → cut_fits q ≡ true → (shuffles.cut q).width ≡ q
cut_width q f = ap (λ (s : ShuffleMeaning). s.width) (cond-true (cut_fits q) _ _ f)

pub cut_total : (q : ℕ) → cut_fits q ≡ true → (shuffles.cut q).total ≡ q
cut_total q f = ap (λ (s : ShuffleMeaning). s.total) (cond-true (cut_fits q) _ _ f)

pub explicit_width : (q : ℕ) (es : List Entry) → entries_fit q es ≡ true → (shuffles.explicit q es).width ≡ q
explicit_width q es f = ap (λ (s : ShuffleMeaning). s.width) (cond-true (entries_fit q es) _ _ f)

pub explicit_total : (q : ℕ) (es : List Entry) → entries_fit q es ≡ true → (shuffles.explicit q es).total ≡ weights es
explicit_total q es f = ap (λ (s : ShuffleMeaning). s.total) (cond-true (entries_fit q es) _ _ f)

-- what follows the places of an explicit shuffle
pub entries_part : (m q : ℕ) (ps bs : List ℕ) (c : ℕ) → length ps ≡ q * m
    → parts (0x13 ∷ m ∷ q ∷ ps ++ c ∷ bs) ≡ frames.explicit m q ps bs
entries_part m q ps bs c l =
    ap (λ xs. frames.explicit m q xs (drop 1 (drop (q * m) (ps ++ c ∷ bs)))) (take_at ps (c ∷ bs) (q * m) l)
    ∙ ap (λ xs. frames.explicit m q ps (drop 1 xs)) (drop_at ps (c ∷ bs) (q * m) l)

-- a frame that writes a shuffle of n cards and so many draws
record Fitting (n draws : ℕ) (p : Parts) : Type 0 where
  pub width : (shuffle_of n p).width ≡ n
  pub total : (shuffle_of n p).total ≡ draws
  pub layers : LayersFit n p

module _ (h : Head) (some : 1 ≤ h.cards) (few : h.cards ≤ 12) (lines line draws next : ℕ) where
  abbrev Fits : Parts → Type 0
  Fits p = action_of line p ≡ model.shuffle draws next → Fitting h.cards draws p

  fits_cut : (m q : ℕ) (ps : List ℕ) → KeepsPiles h.cards m q ps → Fits (frames.cut m q ps)
  fits_cut m q ps k a =
      let f = slots_fit q k.some_slots k.few_slots in
      let w = cut_width q f in
      record {
        width = placed_width h.cards m q ps some few k (shuffles.cut q) w;
        total = placed_total h.cards m q ps some few k (shuffles.cut q) w ∙ (cut_total q f ∙ ap total_of a);
        layers = (
          f,
          (
            piles_are_fit h.cards m q ps some few k (shuffles.cut q) w,
            places_are_fit h.cards m q ps some few k (shuffles.cut q) w,
          ),
        );
      }

  fits_explicit : (m q : ℕ) (ps bs : List ℕ) → KeepsPiles h.cards m q ps → entries_fit q (entries_of q bs) ≡ true
      → Fits (frames.explicit m q ps bs)
  fits_explicit m q ps bs k f a =
      let below = shuffles.explicit q (entries_of q bs) in
      let w = explicit_width q (entries_of q bs) f in
      record {
        width = placed_width h.cards m q ps some few k below w;
        total = placed_total h.cards m q ps some few k below w ∙ (explicit_total q (entries_of q bs) f ∙ ap total_of a);
        layers = (
          f,
          (
            piles_are_fit h.cards m q ps some few k below w,
            places_are_fit h.cards m q ps some few k below w,
          ),
        );
      }

  -- a line that keeps its rules
  line_fits : (x : Line) → KeepsLine h lines line x → Fits (parts (line_bytes x))
  line_fits (permute ps) k a = absurd (false≢true (ap is_shuffle a))
  line_fits (cut m q ps) k a = fits_cut m q ps k a
  line_fits (explicit m q ps es) k a =
      let f : entries_fit q (entries_of q (flat_map entry_bytes es)) ≡ true
      = subst (λ xs. entries_fit q xs ≡ true) (sym (entries_back q es k.1.1.1))
      (entries_are_fit q es k.0.some_slots k.0.few_slots k.1.0 k.1.1.0 k.1.1.1) in
      subst Fits (sym (entries_part m q ps (flat_map entry_bytes es) (length es) k.0.long))
      (fits_explicit m q ps (flat_map entry_bytes es) k.0 f) a
  line_fits (turn ps bs) k a = absurd (false≢true (ap is_shuffle a))
  line_fits (committed l r) k a = absurd (false≢true (ap is_shuffle a))
  line_fits (opened v) k a = absurd (false≢true (ap is_shuffle a))

module _ (sheet : List ℕ) (e : verdict sheet ≡ None) (line draws next : ℕ) (a : action sheet line ≡ model.shuffle draws next) where
  outside : (line < 2) ⊎ (line_count sheet ≤ line) → OwnShuffle sheet line draws
  outside o = absurd (false≢true (ap is_shuffle (sym (ap (action_of line) (no_parts sheet e line o)) ∙ a)))

  inside : 2 ≤ line → line < line_count sheet → OwnShuffle sheet line draws
  inside l k =
      let c = head_known sheet e in
      let r = line_reads (head sheet) (line_count sheet) line l (omega (arith, k)) (frame sheet line) (line_kept sheet e line l k) in
      let f = subst (λ b. Fits (head sheet) (omega (arith, c.some_cards)) c.few_cards (line_count sheet) line draws next (parts b)) r.1.0
      (line_fits (head sheet) (omega (arith, c.some_cards)) c.few_cards (line_count sheet) line draws next r.0 r.1.1) a in
      record { width = f.width; total = f.total; layers = f.layers }

  pub own_fits : OwnShuffle sheet line draws
  own_fits =
      ⊎_elim (λ l. outside (inl l))
      (λ l. ⊎_elim (λ k. inside l k) (λ k. outside (inr k)) (cases_lt line (line_count sheet)))
      (cases_lt line 2)

pub own_shuffles_fit : OwnShufflesFit
own_shuffles_fit = own_fits
