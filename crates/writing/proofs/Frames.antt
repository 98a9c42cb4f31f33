-- The frame of a line from 2 on keeps its form exactly when it is the writing of a line that keeps its rules.
use Rattle.std.proofs.Common.{◌≡◌, ℕ, suc, ◌+◌, ◌*◌, ◌≤◌, true, false, eqb, List, [], ◌∷◌, ◌++◌, length, get_or, take, drop, None, sym, refl, ap, ◌∙◌, subst, ⊎_elim, arith}
use Rattle.std.proofs.lemmas.List.{append-nil}
use Rattle.std.proofs.lemmas.Bool.{eqb-true, or_cases, false≢true}
use Rattle.std.specs.List.{flat_map}
use Rattle.cards.specs.Lists.{distinct}
use Rattle.heads.specs.declared.head.Head.{Head}
use Rattle.format.specs.Form.{Form, ends, byte, wrong}
use Rattle.format.specs.Kinds.{Kind, from_to, distinct_rule, entries_form, cut_form, committed_form, open_form, kinds, known, form_after, form_at}
use Rattle.format.proofs.Inversion.{byte_fits, ends_fits}
use Rattle.format.proofs.Kinding.{form_later}
use Rattle.writing.specs.Writing.{Line, permute, cut, explicit, turn, committed, opened, line_bytes, entry_bytes, KeepsLine, LineLaw}
use Rattle.writing.proofs.Accepting.{listed_accepts}
use Rattle.writing.proofs.Listing.{in_range, from_range, distinct_each, each_distinct}
use Rattle.writing.proofs.Lines.{got, first_rest, permute_accepts, permute_reads, piled_accepts, piled_reads, entries_accepts, entries_reads}
use Rattle.writing.proofs.Turns.{turn_accepts, turn_reads}

-- results
committed_accepts : (n l r : ℕ) → distinct 1 n (l ∷ r ∷ []) ≡ true → wrong 1 (committed_form n) (l ∷ r ∷ []) ≡ None
committed_accepts n l r d =
    listed_accepts (distinct_rule 1 n) (λ _. ends) 2 1 [] (l ∷ r ∷ []) [] refl (λ i h. distinct_each 1 n (l ∷ r ∷ []) d i h)

two : (xs : List ℕ) → length xs ≡ 2 → xs ≡ get_or xs 0 0 ∷ get_or xs 1 0 ∷ []
two [] e = absurd (omega arith)
two (x ∷ []) e = absurd (omega arith)
two (x ∷ y ∷ []) e = refl
two (x ∷ y ∷ z ∷ xs) e = absurd (omega arith)

committed_reads : (n : ℕ) (tail : List ℕ) → wrong 1 (committed_form n) tail ≡ None
    → (get_or tail 0 0 ∷ get_or tail 1 0 ∷ [] ≡ tail) × (distinct 1 n (get_or tail 0 0 ∷ get_or tail 1 0 ∷ []) ≡ true)
committed_reads n tail e =
    let g = got (distinct_rule 1 n) 2 1 (λ _. ends) tail e in
    let nil = ends_fits 3 (drop 2 tail) g.after in
    let same : take 2 tail ≡ tail = sym (append-nil (take 2 tail)) ∙ (ap (λ r. take 2 tail ++ r) (sym nil) ∙ g.whole) in
    let l : length tail ≡ 2 = subst (λ xs. length xs ≡ 2) same g.long in
    let d : distinct 1 n tail ≡ true = subst (λ xs. distinct 1 n xs ≡ true) same (each_distinct 1 n 2 (take 2 tail) g.long g.each) in
    (sym (two tail l), subst (λ xs. distinct 1 n xs ≡ true) (two tail l) d)

open_reads : (tail : List ℕ) → wrong 1 open_form tail ≡ None → (get_or tail 0 0 ∷ [] ≡ tail) × (get_or tail 0 0 ≤ 1)
open_reads tail e =
    let a = byte_fits (from_to 0 1) (λ _. ends) 1 tail e in
    let nil = ends_fits 2 (drop 1 tail) a.1.1 in
    (ap (λ x. get_or tail 0 0 ∷ x) (sym nil) ∙ sym (first_rest tail a.0), (in_range 0 1 (get_or tail 0 0) a.1.0).1)

module _ (h : Head) (lines line : ℕ) (l : 2 ≤ line) (many : 1 ≤ lines) where
  abbrev ks : List Kind
  ks = kinds h lines line

  abbrev counted_entries : ℕ → Form
  counted_entries q = byte (from_to 1 8) (λ count. entries_form count q)

  accepted : (x : Line) → KeepsLine h lines line x → wrong 0 (byte (known ks) (form_after ks)) (line_bytes x) ≡ None
  accepted (permute ps) k = permute_accepts h.cards ps k.0 k.1
  accepted (cut m q ps) k =
      ap (λ t. wrong 1 (cut_form h.cards) (m ∷ q ∷ t)) (sym (append-nil ps)) ∙ piled_accepts h.cards (λ _. ends) m q ps [] k
  accepted (explicit m q ps es) k =
      piled_accepts h.cards counted_entries m q ps (length es ∷ flat_map entry_bytes es) k.0
      ∙ rw (from_range 1 8 (length es) k.1.0 k.1.1.0) (entries_accepts q (suc (3 + q * m)) es k.1.1.1)
  accepted (turn ps bs) k = turn_accepts h.deck h.cards lines line ps bs k
  accepted (committed a b) k = committed_accepts h.cards a b k
  accepted (opened v) k = rw (from_range 0 1 v (omega arith) k)

  -- one of the kinds
  by_kind : (P : ℕ → Type 0) → P 0x10 → P 0x11 → P 0x13 → P 0x20 → P 0x30 → P 0x31 → (b : ℕ) → known ks b ≡ true → P b
  by_kind P p q r s t u b e =
      ⊎_elim (λ i. subst P (eqb-true 0x10 b i) p) (λ e1.
      ⊎_elim (λ i. subst P (eqb-true 0x11 b i) q) (λ e2.
      ⊎_elim (λ i. subst P (eqb-true 0x13 b i) r) (λ e3.
      ⊎_elim (λ i. subst P (eqb-true 0x20 b i) s) (λ e4.
      ⊎_elim (λ i. subst P (eqb-true 0x30 b i) t) (λ e5.
      ⊎_elim (λ i. subst P (eqb-true 0x31 b i) u) (λ e6. absurd (false≢true e6))
      (or_cases (eqb 0x31 b) false e5))
      (or_cases (eqb 0x30 b) _ e4))
      (or_cases (eqb 0x20 b) _ e3))
      (or_cases (eqb 0x13 b) _ e2))
      (or_cases (eqb 0x11 b) _ e1))
      (or_cases (eqb 0x10 b) _ e)

  abbrev Reads : List ℕ → ℕ → Type 0
  Reads tail b = wrong 1 (form_after ks b) tail ≡ None → (x : Line) × ((line_bytes x ≡ b ∷ tail) × KeepsLine h lines line x)

  read_permute : (tail : List ℕ) → Reads tail 0x10
  read_permute tail e = (permute tail, (refl, permute_reads h.cards tail e))

  read_cut : (tail : List ℕ) → Reads tail 0x11
  read_cut tail e =
      let p = piled_reads h.cards (λ _. ends) tail e in
      let nil = ends_fits (3 + get_or tail 1 0 * get_or tail 0 0) (drop (get_or tail 1 0 * get_or tail 0 0) (drop 2 tail)) p.after in
      let ps = take (get_or tail 1 0 * get_or tail 0 0) (drop 2 tail) in (
        cut (get_or tail 0 0) (get_or tail 1 0) ps,
        (
          ap (λ x. 0x11 ∷ x) (ap (λ x. get_or tail 0 0 ∷ get_or tail 1 0 ∷ x) (sym (append-nil ps) ∙ ap (λ r. ps ++ r) (sym nil)) ∙ p.whole),
          p.keeps,
        ),
      )

  read_explicit : (tail : List ℕ) → Reads tail 0x13
  read_explicit tail e =
      let p = piled_reads h.cards counted_entries tail e in
      let m = get_or tail 0 0 in
      let q = get_or tail 1 0 in
      let ps = take (q * m) (drop 2 tail) in
      let rest = drop (q * m) (drop 2 tail) in
      let a = byte_fits (from_to 1 8) (λ count. entries_form count q) (3 + q * m) rest p.after in
      let i = in_range 1 8 (get_or rest 0 0) a.1.0 in
      let r = entries_reads (get_or rest 0 0) q (suc (3 + q * m)) (drop 1 rest) a.1.1 in
      let c = r.1.long in (
        explicit m q ps r.0,
        (
          ap (λ x. 0x13 ∷ x)
              (ap (λ x. m ∷ q ∷ ps ++ x)
              (ap (λ x. x ∷ flat_map entry_bytes r.0) c ∙ (ap (λ x. get_or rest 0 0 ∷ x) r.1.whole ∙ sym (first_rest rest a.0)))
              ∙ p.whole),
          (p.keeps, (rw c i.0, (rw c i.1, r.1.keep))),
        ),
      )

  read_turn : (tail : List ℕ) → Reads tail 0x20
  read_turn tail e =
      let r = turn_reads h.deck h.cards lines line many tail e in
      (turn r.0 r.1.0, (ap (λ x. 0x20 ∷ x) r.1.1.whole, r.1.1.keeps))

  read_committed : (tail : List ℕ) → Reads tail 0x30
  read_committed tail e =
      let r = committed_reads h.cards tail e in
      (committed (get_or tail 0 0) (get_or tail 1 0), (ap (λ x. 0x30 ∷ x) r.0, r.1))

  read_open : (tail : List ℕ) → Reads tail 0x31
  read_open tail e = let r = open_reads tail e in (opened (get_or tail 0 0), (ap (λ x. 0x31 ∷ x) r.0, r.1))

  pub line_accepts : (x : Line) → KeepsLine h lines line x → wrong 0 (form_at h lines line) (line_bytes x) ≡ None
  line_accepts x k = ap (λ f. wrong 0 f (line_bytes x)) (form_later h lines line l) ∙ accepted x k

  pub line_reads : (bytes : List ℕ) → wrong 0 (form_at h lines line) bytes ≡ None
      → (x : Line) × ((line_bytes x ≡ bytes) × KeepsLine h lines line x)
  line_reads bytes e =
      let f : wrong 0 (byte (known ks) (form_after ks)) bytes ≡ None = ap (λ f. wrong 0 f bytes) (sym (form_later h lines line l)) ∙ e in
      let a = byte_fits (known ks) (form_after ks) 0 bytes f in
      let r = by_kind (Reads (drop 1 bytes)) (read_permute (drop 1 bytes)) (read_cut (drop 1 bytes)) (read_explicit (drop 1 bytes))
      (read_turn (drop 1 bytes)) (read_committed (drop 1 bytes)) (read_open (drop 1 bytes)) (get_or bytes 0 0) a.1.0 a.1.1 in
      (r.0, (r.1.0 ∙ sym (first_rest bytes a.0), r.1.1))

pub line_law : LineLaw
line_law = record { accepts = line_accepts; reads = line_reads }
