-- What is known of a sheet that passes.
use Rattle.std.specs.Prelude.{◌≡◌, ℕ, ◌≤◌, false, List, length, is_some, Some, None, Option, nat_eq, refl}
use Rattle.std.proofs.Common.{arith, sym, subst}
use Rattle.std.proofs.lemmas.Bool.{ltb-false, true≢false}
use Rattle.heads.specs.declared.head.Head.{Head}
use Rattle.format.specs.Form.{wrong}
use Rattle.format.specs.Kinds.{layout_form}
use Rattle.format.proofs.Inversion.{head_kept, HeadKept, byte_fits}
use Rattle.sheet.specs.First.{first}
use Rattle.sheet.specs.Lines.{frame, line_count}
use Rattle.sheet.specs.Scripts.{head}
use Rattle.sheet.specs.Verdicts.{verdict, length_fault, line_fault, result_fault, last_fault, product_fault}
use Rattle.sheet.specs.Counting.{Counted, FramesRead}
use Rattle.sheet.specs.Firsts.{or_else_none, given_none, mapped_none, first_none_each}

pub not_some : {X : Type 0} (o : Option X) → is_some o ≡ false → o ≡ None
not_some None e = refl
not_some (Some x) e = absurd (true≢false e)

pub record Passed (sheet : List ℕ) : Type 0 where
  pub sound : first 65 (length_fault sheet) ≡ None
  pub many : 3 ≤ line_count sheet
  pub framed : first (line_count sheet) (line_fault sheet) ≡ None
  pub agree : first (line_count sheet) (result_fault sheet) ≡ None
  pub ended : last_fault sheet ≡ None
  pub small : first (line_count sheet) (product_fault sheet) ≡ None

pub passed : (sheet : List ℕ) → verdict sheet ≡ None → Passed sheet
passed sheet e =
    let a = or_else_none _ _ e in
    let b = or_else_none _ _ a.1 in
    let c = or_else_none _ _ b.1 in
    let d = or_else_none _ _ c.1 in
    let f = or_else_none _ _ d.1 in
    let g = or_else_none _ _ f.1 in
    record {
      sound = a.0;
      many = ltb-false (line_count sheet) 3 (given_none _ _ b.0);
      framed = c.0;
      agree = d.0;
      ended = f.0;
      small = g.0;
    }

pub frames_read : (sheet : List ℕ) (lines : ℕ) (h : Head) → verdict sheet ≡ None → Counted sheet lines → h ≡ head sheet
    → FramesRead sheet lines h
frames_read sheet lines h e c q =
    let p = passed sheet e in
    record { sound = subst (λ n. first n (line_fault sheet) ≡ None) (sym c.count) p.framed; heads = q }

module _ (sheet : List ℕ) (e : verdict sheet ≡ None) where
  pub head_known : HeadKept (frame sheet 0)
  head_known =
      let p = passed sheet e in
      head_kept (frame sheet 0) (mapped_none _ _ (first_none_each (line_fault sheet) (line_count sheet) p.framed 0 (omega (arith, p.many))))

  pub layout_known : wrong 0 (layout_form (head sheet)) (frame sheet 1) ≡ None
  layout_known =
      let p = passed sheet e in
      mapped_none _ _
      (or_else_none _ _ (first_none_each (line_fault sheet) (line_count sheet) p.framed 1 (omega (arith, p.many)))).0

  pub layout_some : 1 ≤ length (frame sheet 1)
  layout_some = (byte_fits (nat_eq 2) _ 0 (frame sheet 1) layout_known).0
