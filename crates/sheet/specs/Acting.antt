-- The actions of a sheet whose frames keep their forms.
use Rattle.std.specs.Prelude.{◌≡◌, ℕ, zero, suc, ◌+◌, ◌-◌, ◌*◌, ◌<◌, ◌≤◌, Bool, true, false, cond, List, [], ◌∷◌, length, take, drop, None, ◌==◌, nat_eq, slice_index, refl}
use Rattle.std.proofs.Common.{arith, sym, ap, ◌∙◌, subst}
use Rattle.std.proofs.lemmas.List.{length-drop}
use Rattle.std.proofs.lemmas.Bool.{eqb-true}
use Rattle.script.specs.Model as model
use Rattle.heads.specs.declared.head.Head.{Head}
use Rattle.format.specs.Form.{wrong, ends, listed}
use Rattle.heads.specs.Heads.{deck_meaning}
use Rattle.format.specs.Kinds.{head_form, head_rule, layout_form, code_rule, form_at}
use Rattle.format.specs.Parts.{parts, permute, cut, explicit, turn, committed, opened, none}
use Rattle.format.proofs.Inversion.{listed_fits, byte_fits}
use Rattle.sheet.specs.Actions.{written_entries}
use Rattle.sheet.specs.Lines.{left, frame, line_count}
use Rattle.sheet.specs.Scripts.{head, action, action_of}
use Rattle.sheet.specs.Verdicts.{line_fault, byte_fault}
use Rattle.sheet.specs.Counting.{Counted, FramesRead}
use Rattle.sheet.specs.Firsts.{first_none_each, or_else_none, mapped_none}
use Rattle.sheet.specs.Passing.{frame_later}
use Rattle.sheet.specs.Splitting.{empty_on}

-- what a frame with a kind of no action means
other_kind : (bytes : List ℕ) → slice_index bytes 0 ≤ 2 → parts bytes ≡ none
other_kind [] h = refl
other_kind (zero ∷ bytes) h = refl
other_kind (suc zero ∷ bytes) h = refl
other_kind (suc (suc zero) ∷ bytes) h = refl
other_kind (suc (suc (suc b)) ∷ bytes) h = absurd (omega arith)

head_kind : (bytes : List ℕ) → wrong 0 head_form bytes ≡ None → slice_index bytes 0 ≡ 1
head_kind bytes e =
    let p = listed_fits head_rule (λ _. ends) 6 0 [] bytes e in
    eqb-true (slice_index bytes 0) 1 (p.each 0 (omega arith))

layout_kind : (h : Head) (bytes : List ℕ) → wrong 0 (layout_form h) bytes ≡ None → slice_index bytes 0 ≡ 2
layout_kind h bytes e =
    let p = byte_fits (nat_eq 2) (λ _. listed h.cards (code_rule (deck_meaning h.deck) h.players) [] (λ _. ends)) 0 bytes e in
    sym (eqb-true 2 (slice_index bytes 0) p.1.0)

entries_drop : (n k : ℕ) (rest : List ℕ) → length (drop 1 (drop n (drop k rest))) ≤ length rest
entries_drop n k rest = simp (length-drop) (omega arith)

pub entries_short : (bytes : List ℕ) → length (written_entries (parts bytes)) ≤ length bytes
entries_short [] = omega arith
entries_short (b ∷ rest) =
    go (b == 0x10) (b == 0x11) (b == 0x13) (b == 0x20) (b == 0x30) (b == 0x31)
  where
    go : (p q r s t u : Bool)
        → length (written_entries
        (cond p (permute rest)
        (cond q (cut (slice_index rest 0) (slice_index rest 1) (drop 2 rest))
        (cond r (explicit (slice_index rest 0) (slice_index rest 1) (take (slice_index rest 1 * slice_index rest 0) (drop 2 rest)) (drop 1 (drop (slice_index rest 1 * slice_index rest 0) (drop 2 rest))))
        (cond s (turn (take (slice_index rest 0) (drop 1 rest)) (drop 1 (drop (slice_index rest 0) (drop 1 rest))))
        (cond t (committed (slice_index rest 0) (slice_index rest 1))
        (cond u (opened (slice_index rest 0)) none)))))))
        ≤ length (b ∷ rest)
    go true q r s t u = omega arith
    go false true r s t u = omega arith
    go false false true s t u = let k = entries_drop (slice_index rest 1 * slice_index rest 0) 2 rest in omega (arith, k)
    go false false false true t u = omega arith
    go false false false false true u = omega arith
    go false false false false false true = omega arith
    go false false false false false false = omega arith

module _ (sheet : List ℕ) (lines : ℕ) (counted : Counted sheet lines) (h : Head) (read : FramesRead sheet lines h) (many : 3 ≤ lines) where
  pub line_fits : (line : ℕ) → 2 ≤ line → line < lines → wrong 0 (form_at h lines line) (frame sheet line) ≡ None
  line_fits line l k =
      let e = first_none_each (line_fault sheet) lines read.sound line k in
      let c = counted.count in
      let q = read.heads in
      let f = sym (frame_later (head sheet) (line_count sheet) line (frame sheet line) l) ∙ e in
      let g : byte_fault line (form_at h lines line) (frame sheet line) ≡ None = rw (q, c) f in
      mapped_none _ _ g

  pub head_fits : wrong 0 head_form (frame sheet 0) ≡ None
  head_fits = mapped_none _ _ (first_none_each (line_fault sheet) lines read.sound 0 (omega arith))

  pub layout_fits : (wrong 0 (layout_form (head sheet)) (frame sheet 1) ≡ None)
  layout_fits =
      mapped_none _ _ (or_else_none _ _ (first_none_each (line_fault sheet) lines read.sound 1 (omega arith))).0

  pub parts_early : (line : ℕ) → line < 2 → parts (frame sheet line) ≡ none
  parts_early zero l = let k = head_kind (frame sheet 0) head_fits in other_kind (frame sheet 0) (omega arith)
  parts_early (suc zero) l =
      let k = layout_kind (head sheet) (frame sheet 1) layout_fits in other_kind (frame sheet 1) (omega arith)
  parts_early (suc (suc k)) l = absurd (omega arith)

  pub parts_late : (line : ℕ) → lines ≤ line → parts (frame sheet line) ≡ none
  parts_late line l =
      let e : lines + (line - lines) ≡ line = omega arith in
      let z : left sheet line ≡ [] = subst (λ k. left sheet k ≡ []) e (empty_on sheet lines (line - lines) counted.over) in
      rw z

  pub nothing_early : (line : ℕ) → line < 2 → model.none ≡ action sheet line
  nothing_early line l = sym (ap (action_of line) (parts_early line l))

  pub nothing_late : (line : ℕ) → lines ≤ line → model.none ≡ action sheet line
  nothing_late line l = sym (ap (action_of line) (parts_late line l))
