-- The frames of a sheet, line by line.
use Rattle.std.specs.Prelude.{◌≡◌, ℕ, zero, suc, ◌+◌, ◌<◌, ◌≤◌, false, ◌||◌, List, [], ◌∷◌, length, Some, None, ◌==◌, nat_le, nat_lt, refl}
use Rattle.std.proofs.Common.{arith, sym, ap, ◌∙◌}
use Rattle.std.proofs.lemmas.List.{length-take}
use Rattle.std.proofs.lemmas.Bool.{or_parts, eqb-false, ltb-false, leb-false}
use Rattle.heads.specs.declared.fault.SheetFault.{SheetFault}
use Rattle.heads.specs.declared.head.Head.{Head}
use Rattle.heads.specs.Faults.{shown}
use Rattle.format.specs.Form.{Form, wrong}
use Rattle.format.specs.Kinds.{head_form, form_at}
use Rattle.format.specs.Taking.{Faulty}
use Rattle.heads.specs.Heads.{head_of}
use Rattle.format.proofs.Inversion.{head_kept}
use Rattle.sheet.specs.First.{first}
use Rattle.sheet.specs.Lines.{left, frame, first_frame, bad_length, line_count}
use Rattle.sheet.specs.Scripts.{head}
use Rattle.sheet.specs.Verdicts.{length_fault, byte_fault, layout_fault, frame_fault, line_fault}
use Rattle.sheet.specs.Counting.{Counted}
use Rattle.sheet.specs.Firsts.{first_zero, first_more, first_none_each, first_some, given_none}

-- what a sound length byte says
pub record Sound (n : ℕ) (rest : List ℕ) (line : ℕ) : Type 0 where
  pub some : 1 ≤ n
  pub few : n ≤ 128
  pub inside : n ≤ length rest
  pub early : line < 64

pub sound_length : (n : ℕ) (rest : List ℕ) (line : ℕ) → bad_length line (n ∷ rest) ≡ false → Sound n rest line
sound_length n rest line e =
    let p = or_parts (n == 0 || nat_lt 128 n) (nat_lt (length rest) n || nat_le 64 line) e in
    let q = or_parts (n == 0) (nat_lt 128 n) p.0 in
    let r = or_parts (nat_lt (length rest) n) (nat_le 64 line) p.1 in
    let z : n ≡ 0 → ⊥ = eqb-false n 0 q.0 in
    record {
      some = omega (arith, z);
      few = ltb-false 128 n q.1;
      inside = ltb-false (length rest) n r.0;
      early = leb-false 64 line r.1;
    }

pub sound_line : (sheet : List ℕ) → first 65 (length_fault sheet) ≡ None → (l : ℕ) → l < 65 → bad_length l (left sheet l) ≡ false
sound_line sheet e l h = given_none _ _ (first_none_each (length_fault sheet) 65 e l h)

short : (l : ℕ) (rest : List ℕ) → bad_length l rest ≡ false → length (first_frame rest) ≤ 128
short l [] e = omega arith
short l (n ∷ rest) e = let s = sound_length n rest l e in rw (length-take n rest) (omega (arith, s.few))

pub frame_short : (sheet : List ℕ) → first 65 (length_fault sheet) ≡ None → (l : ℕ) → l < 65 → length (frame sheet l) ≤ 128
frame_short sheet e l h = short l (left sheet l) (sound_line sheet e l h)

pub frame_later : (h : Head) (lines line : ℕ) (bytes : List ℕ) → 2 ≤ line
    → frame_fault h lines line bytes ≡ byte_fault line (form_at h lines line) bytes
frame_later h lines zero bytes l = absurd (omega arith)
frame_later h lines (suc zero) bytes l = absurd (omega arith)
frame_later h lines (suc (suc k)) bytes l = refl

pub faulty_byte : (form : Form) (bytes : List ℕ) (line : ℕ) (e : SheetFault) → Faulty form 0 bytes line e
    → byte_fault line form bytes ≡ Some (shown e)
faulty_byte form bytes line e f = let p = f.first in let q = f.names in rw (p, q)

pub right_byte : (form : Form) (bytes : List ℕ) (line : ℕ) → wrong 0 form bytes ≡ None → byte_fault line form bytes ≡ None
right_byte form bytes line e = rw e

module _ (sheet : List ℕ) (lines : ℕ) (counted : Counted sheet lines) where
  pub at_head : (bytes : List ℕ) (e : SheetFault) → bytes ≡ frame sheet 0 → 3 ≤ lines → Faulty head_form 0 bytes 0 e
      → first lines (line_fault sheet) ≡ Some (shown e)
  at_head bytes e p l f =
      first_some (line_fault sheet) 0 lines _ (omega arith) (first_zero _) (rw (← p) (faulty_byte head_form bytes 0 e f))

  pub past_head : (bytes : List ℕ) → bytes ≡ frame sheet 0 → wrong 0 head_form bytes ≡ None → first 1 (line_fault sheet) ≡ None
  past_head bytes p f = first_more (line_fault sheet) 0 (first_zero _) (rw (← p) (right_byte head_form bytes 0 f))

  layout_is : (h : Head) (bytes : List ℕ) → h ≡ head sheet → bytes ≡ frame sheet 1 → line_fault sheet 1 ≡ layout_fault h bytes
  layout_is h bytes q p = ap (λ x. layout_fault x (frame sheet 1)) (sym q) ∙ ap (λ b. layout_fault h b) (sym p)

  pub at_layout : (h : Head) (bytes : List ℕ) (e : SheetFault) → h ≡ head sheet → bytes ≡ frame sheet 1 → 3 ≤ lines
      → first 1 (line_fault sheet) ≡ None → layout_fault h bytes ≡ Some (shown e) → first lines (line_fault sheet) ≡ Some (shown e)
  at_layout h bytes e q p l o f = first_some (line_fault sheet) 1 lines _ (omega arith) o (layout_is h bytes q p ∙ f)

  pub past_layout : (h : Head) (bytes : List ℕ) → h ≡ head sheet → bytes ≡ frame sheet 1
      → first 1 (line_fault sheet) ≡ None → layout_fault h bytes ≡ None → first 2 (line_fault sheet) ≡ None
  past_layout h bytes q p o f = first_more (line_fault sheet) 1 o (layout_is h bytes q p ∙ f)

  line_is : (h : Head) (bytes : List ℕ) (line : ℕ) → h ≡ head sheet → bytes ≡ frame sheet line → 2 ≤ line
      → line_fault sheet line ≡ byte_fault line (form_at h lines line) bytes
  line_is h bytes line q p l =
      let c = counted.count in
      frame_later (head sheet) (line_count sheet) line (frame sheet line) l ∙ rw (← q, ← p, ← c)

  pub at_line : (h : Head) (bytes : List ℕ) (line : ℕ) (e : SheetFault) → h ≡ head sheet → bytes ≡ frame sheet line → 2 ≤ line → line < lines
      → first line (line_fault sheet) ≡ None → Faulty (form_at h lines line) 0 bytes line e → first lines (line_fault sheet) ≡ Some (shown e)
  at_line h bytes line e q p l k o f =
      first_some (line_fault sheet) line lines _ k o (line_is h bytes line q p l ∙ faulty_byte (form_at h lines line) bytes line e f)

  pub past_line : (h : Head) (bytes : List ℕ) (line : ℕ) → h ≡ head sheet → bytes ≡ frame sheet line → 2 ≤ line
      → first line (line_fault sheet) ≡ None → wrong 0 (form_at h lines line) bytes ≡ None → first (line + 1) (line_fault sheet) ≡ None
  past_line h bytes line q p l o f =
      first_more (line_fault sheet) line o (line_is h bytes line q p l ∙ right_byte (form_at h lines line) bytes line f)

pub players_few : (bytes : List ℕ) (h : Head) → h ≡ head_of bytes → wrong 0 head_form bytes ≡ None → h.players ≤ 3
players_few bytes h e f = let k = head_kept bytes f in rw e k.few_players
