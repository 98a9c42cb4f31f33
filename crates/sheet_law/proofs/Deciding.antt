-- A sheet passes exactly when its bytes are the writing of a script that keeps every rule.
use Rattle.std.proofs.Common.{◌≡◌, ℕ, zero, suc, ◌+◌, ◌-◌, ◌<◌, ◌≤◌, Bool, true, false, not, ◌&&◌, eqb, List, [], ◌∷◌, length, get_or, None, sym, refl, ap, ◌∙◌, subst, ⊎_elim, arith}
use Rattle.std.proofs.lemmas.List.{length-map, get_or-map}
use Rattle.std.proofs.lemmas.Bool.{cases_Bool, eq-eqb, eqb-true, le-ltb, not-false}
use Rattle.heads.specs.Faults.{sheet_fault}
use Rattle.heads.specs.Heads.{head_of}
use Rattle.format.specs.Form.{wrong}
use Rattle.format.specs.Kinds.{head_form, form_at, known, form_after, kinds}
use Rattle.format.proofs.Inversion.{byte_fits}
use Rattle.format.proofs.Kinding.{form_later}
use Rattle.writing.specs.Writing.{Line, permute, cut, explicit, turn, committed, opened, layout_bytes, line_bytes, KeepsLayout, KeepsLine}
use Rattle.writing.proofs.Frames.{line_accepts, line_reads}
use Rattle.sheet.specs.First.{given}
use Rattle.sheet.specs.Laws.{SmallProducts}
use Rattle.sheet.specs.Lines.{left, frame, first_frame, line_count}
use Rattle.sheet.specs.Products.{shuffles, greatest, limit}
use Rattle.sheet.specs.Scripts.{head, codes, action, script_of}
use Rattle.sheet.specs.Verdicts.{verdict, few_fault, layout_fault, line_fault, result_fault, last_fault, product_fault, is_result, result_kind, kind_at, missing_code}
use Rattle.sheet.specs.CountingLemmas.{counted_sheet}
use Rattle.sheet.specs.Firsts.{first_from_each, first_none_each, given_none, mapped_none, or_else_none}
use Rattle.sheet.specs.Lawful.{few_lines, line_kept}
use Rattle.sheet.specs.Passed.{passed, layout_known, layout_some, head_known}
use Rattle.sheet.specs.Passing.{frame_short, right_byte}
use Rattle.sheet.proofs.Paths.{small_products}
use Rattle.sheet.specs.Splitting.{left_zero}
use Rattle.sheet_law.specs.Whole.{Writing, frames, writing_bytes, kind_of, KeepsRules, SheetLaw}
use Rattle.sheet_law.proofs.Attaining.{greatest_small}
use Rattle.sheet_law.proofs.Framing.{frame_join, join_sound, join_count, rejoined}
use Rattle.sheet_law.proofs.Heading.{head_accepts, head_back, head_reads, head_again, layout_accepts, players_there, layout_reads}

line_some : (x : Line) → 1 ≤ length (line_bytes x)
line_some (permute ps) = omega arith
line_some (cut m q ps) = omega arith
line_some (explicit m q ps es) = omega arith
line_some (turn ps bs) = omega arith
line_some (committed a b) = omega arith
line_some (opened v) = omega arith

and_none : (t : Bool) (f : ℕ) (line : ℕ) → given (t && false) (sheet_fault f line 0) ≡ None
and_none true f line = refl
and_none false f line = refl

-- written by the rules it passes
module _ (w : Writing) (k : KeepsRules w) where
  abbrev sheet : List ℕ
  sheet = writing_bytes w

  lines_long : length (frames w) ≡ suc (suc (length w.lines))
  lines_long = ap (λ n. suc (suc n)) (length-map w.lines line_bytes)

  line_at : (i : ℕ) → i < length w.lines → get_or (frames w) (suc (suc i)) [] ≡ line_bytes (get_or w.lines i (opened 0))
  line_at i l = get_or-map line_bytes w.lines i (opened 0) [] l

  some_frame : (l : ℕ) → l < length (frames w) → 1 ≤ length (get_or (frames w) l [])
  some_frame zero l = omega arith
  some_frame (suc zero) l = omega arith
  some_frame (suc (suc i)) l =
      let e = lines_long in
      let h : i < length w.lines = omega (arith, l, e) in
      rw (line_at i h) (line_some (get_or w.lines i (opened 0)))

  few_frames : length (frames w) ≤ 64
  few_frames = let e = lines_long in omega (arith, e, k.few)

  pub count : line_count sheet ≡ length (frames w)
  count = join_count (frames w) few_frames some_frame k.short

  at : (l : ℕ) → frame sheet l ≡ get_or (frames w) l []
  at l = frame_join (frames w) l

  pub head_is : head sheet ≡ w.head
  head_is = ap head_of (at 0) ∙ head_back w.head

  first_line : line_fault sheet 0 ≡ None
  first_line = right_byte head_form (frame sheet 0) 0 (subst (λ b. wrong 0 head_form b ≡ None) (sym (at 0)) (head_accepts w.head k.headed))

  layout_none : layout_fault w.head (layout_bytes w.codes) ≡ None
  layout_none =
      let a = layout_accepts w.head w.codes k.laid in
      let m = players_there w.head w.codes k.laid in
      rw (a, m)

  second_line : line_fault sheet 1 ≡ None
  second_line = ap (λ h. layout_fault h (frame sheet 1)) head_is ∙ (ap (layout_fault w.head) (at 1) ∙ layout_none)

  later_line : (i : ℕ) → i < length w.lines → line_fault sheet (suc (suc i)) ≡ None
  later_line i l =
      let h : w.head ≡ head sheet = sym head_is in
      let n : length (frames w) ≡ line_count sheet = sym count in
      let b : line_bytes (get_or w.lines i (opened 0)) ≡ frame sheet (suc (suc i)) = sym (at (suc (suc i)) ∙ line_at i l) in
      let a = line_accepts w.head (length (frames w)) (suc (suc i)) (omega arith) (omega (arith, lines_long)) (get_or w.lines i (opened 0)) (k.each i l) in
      let a1 = subst (λ x. wrong 0 (form_at x (length (frames w)) (suc (suc i))) (line_bytes (get_or w.lines i (opened 0))) ≡ None) h a in
      let a2 = subst (λ x. wrong 0 (form_at (head sheet) x (suc (suc i))) (line_bytes (get_or w.lines i (opened 0))) ≡ None) n a1 in
      let a3 = subst (λ x. wrong 0 (form_at (head sheet) (line_count sheet) (suc (suc i))) x ≡ None) b a2 in
      right_byte (form_at (head sheet) (line_count sheet) (suc (suc i))) (frame sheet (suc (suc i))) (suc (suc i)) a3

  each_line : (l : ℕ) → l < line_count sheet → line_fault sheet l ≡ None
  each_line zero l = first_line
  each_line (suc zero) l = second_line
  each_line (suc (suc i)) l = later_line i (omega (arith, l, count, lines_long))

  kind_is : (l : ℕ) → kind_at sheet l ≡ kind_of w l
  kind_is l = ap (λ f. get_or f 0 0) (at l)

  each_result : (l : ℕ) → l < line_count sheet → result_fault sheet l ≡ None
  each_result l h =
      ⊎_elim
      (λ t.
      let q : kind_at sheet l ≡ result_kind (head sheet).output
      = kind_is l ∙ (k.agree l (subst (λ n. l < n) count h) (subst (λ x. is_result x ≡ true) (kind_is l) t) ∙ ap (λ x. result_kind x.output) (sym head_is)) in
      rw (eq-eqb (kind_at sheet l) (result_kind (head sheet).output) q) (and_none (is_result (kind_at sheet l)) 17 l))
      (λ t. rw t)
      (cases_Bool (is_result (kind_at sheet l)))

  last_none : last_fault sheet ≡ None
  last_none =
      let r : is_result (kind_at sheet (line_count sheet - 1)) ≡ true
      = ap (λ n. is_result (kind_at sheet (n - 1))) count ∙ (ap is_result (kind_is (length (frames w) - 1)) ∙ k.last) in
      rw r

  each_product : (l : ℕ) → l < line_count sheet → product_fault sheet l ≡ None
  each_product l h =
      rw (le-ltb limit (greatest (action sheet) l) (greatest_small (action sheet) k.small l)) (and_none (shuffles (action sheet l)) 19 l)

  many : few_fault sheet ≡ None
  many = rw (le-ltb (line_count sheet) 3 (omega (arith, count, lines_long, k.some)))

  pub written_passes : verdict sheet ≡ None
  written_passes =
      let a = join_sound (frames w) few_frames some_frame k.short in
      let c = first_from_each (line_fault sheet) (line_count sheet) each_line in
      let d = first_from_each (result_fault sheet) (line_count sheet) each_result in
      let f = first_from_each (product_fault sheet) (line_count sheet) each_product in
      rw (a, many, c, d, last_none, f)

-- a sheet that passes is so written
module _ (sheet : List ℕ) (e : verdict sheet ≡ None) where
  record Collected (n from : ℕ) : Type 0 where
    pub lines : List Line
    pub long : length lines ≡ n
    pub shows : (i : ℕ) → i < n → line_bytes (get_or lines i (opened 0)) ≡ frame sheet (from + i)
    pub keeps : (i : ℕ) → i < n → KeepsLine (head sheet) (line_count sheet) (from + i) (get_or lines i (opened 0))

  collect : (n from : ℕ) → 2 ≤ from → from + n ≡ line_count sheet → Collected n from
  collect zero from l c =
      record { lines = []; long = refl; shows = λ i h. absurd (omega arith); keeps = λ i h. absurd (omega arith) }
  collect (suc n) from l c =
      let r = line_reads (head sheet) (line_count sheet) from l (omega arith) (frame sheet from) (line_kept sheet e from l (omega arith)) in
      let rest = collect n (suc from) (omega arith) (omega arith) in
      record {
        lines = r.0 ∷ rest.lines;
        long = ap suc rest.long;
        shows = λ i. elim i as (λ j. j < suc n → line_bytes (get_or (r.0 ∷ rest.lines) j (opened 0)) ≡ frame sheet (from + j)) [
          | zero ↦ λ h. r.1.0 ∙ ap (frame sheet) (let z : from ≡ from + 0 = omega arith in z)
          | suc j ↦ λ h. rest.shows j (omega arith) ∙ ap (frame sheet) (let z : suc from + j ≡ from + suc j = omega arith in z)
        ];
        keeps = λ i. elim i as (λ j. j < suc n → KeepsLine (head sheet) (line_count sheet) (from + j) (get_or (r.0 ∷ rest.lines) j (opened 0))) [
          | zero ↦ λ h. subst (λ m. KeepsLine (head sheet) (line_count sheet) m r.0) (let z : from ≡ from + 0 = omega arith in z) r.1.1
          | suc j ↦ λ h. subst (λ m. KeepsLine (head sheet) (line_count sheet) m (get_or rest.lines j (opened 0)))
              (let z : suc from + j ≡ from + suc j = omega arith in z) (rest.keeps j (omega arith))
        ];
      }

  three : 3 ≤ line_count sheet
  three = (passed sheet e).many

  found : Collected (line_count sheet - 2) 2
  found = collect (line_count sheet - 2) 2 (omega arith) (let t = three in omega (arith, t))

  abbrev writing : Writing
  writing = record { head = head sheet; codes = codes sheet; lines = found.lines }

  head_fits : wrong 0 head_form (frame sheet 0) ≡ None
  head_fits =
      let t = three in
      mapped_none _ _ (first_none_each (line_fault sheet) (line_count sheet) (passed sheet e).framed 0 (omega (arith, t)))

  codes_there : missing_code (head sheet).players (codes sheet) ≡ None
  codes_there =
      let t = three in
      mapped_none _ _ (or_else_none _ _ (first_none_each (line_fault sheet) (line_count sheet) (passed sheet e).framed 1 (omega (arith, t)))).1

  laid : (layout_bytes (codes sheet) ≡ frame sheet 1) × KeepsLayout (head sheet) (codes sheet)
  laid = layout_reads (head sheet) (frame sheet 1) (layout_known sheet e) codes_there

  all_lines : length (frames writing) ≡ line_count sheet
  all_lines =
      let t = three in
      ap (λ n. suc (suc n)) (length-map found.lines line_bytes ∙ found.long) ∙ (let z : suc (suc (line_count sheet - 2)) ≡ line_count sheet = omega (arith, t) in z)

  frame_is : (l : ℕ) → l < line_count sheet → get_or (frames writing) l [] ≡ frame sheet l
  frame_is zero h = head_again (frame sheet 0) head_fits
  frame_is (suc zero) h = laid.0
  frame_is (suc (suc i)) h =
      get_or-map line_bytes found.lines i (opened 0) [] (rw found.long (omega arith))
      ∙ (found.shows i (omega arith) ∙ ap (frame sheet) (let z : 2 + i ≡ suc (suc i) = omega arith in z))

  some_frame_at : (l : ℕ) → l < line_count sheet → 1 ≤ length (frame sheet l)
  some_frame_at zero h = let q = (head_known sheet e).long in omega (arith, q)
  some_frame_at (suc zero) h = layout_some sheet e
  some_frame_at (suc (suc i)) h =
      let q = ap (λ f. wrong 0 f (frame sheet (suc (suc i)))) (sym (form_later (head sheet) (line_count sheet) (suc (suc i)) (omega arith)))
      ∙ line_kept sheet e (suc (suc i)) (omega arith) h in
      (byte_fits (known (kinds (head sheet) (line_count sheet) (suc (suc i)))) (form_after (kinds (head sheet) (line_count sheet) (suc (suc i)))) 0 (frame sheet (suc (suc i))) q).0

  left_some : (xs : List ℕ) → 1 ≤ length (first_frame xs) → 1 ≤ length xs
  left_some [] h = h
  left_some (x ∷ xs) h = omega arith

  same_bytes : writing_bytes writing ≡ sheet
  same_bytes =
      let n = all_lines in
      let c = counted_sheet sheet e in
      rejoined sheet (passed sheet e).sound (frames writing) 0
      (let f = few_lines sheet e in omega (arith, n, f))
      (subst (λ m. left sheet m ≡ []) (let z : line_count sheet ≡ length (frames writing) + 0 = omega (arith, n) in z) c.over)
      (λ i h. subst (λ m. 1 ≤ length (left sheet m)) (let z : i ≡ 0 + i = omega arith in z)
      (left_some (left sheet i) (some_frame_at i (omega (arith, h, n)))))
      (λ i h. frame_is i (omega (arith, h, n)) ∙ ap (frame sheet) (let z : i ≡ 0 + i = omega arith in z))
      ∙ left_zero sheet

  kind_same : (l : ℕ) → l < line_count sheet → kind_of writing l ≡ kind_at sheet l
  kind_same l h = ap (λ f. get_or f 0 0) (frame_is l h)

  keeps_rules : KeepsRules writing
  keeps_rules =
      let n = all_lines in
      let t = three in
      let f = few_lines sheet e in
      record {
        headed = head_reads (frame sheet 0) head_fits;
        laid = laid.1;
        some = rw found.long (omega (arith, t));
        few = rw found.long (omega (arith, f));
        short = λ l h. let k : l < line_count sheet = omega (arith, h, n) in
            rw (frame_is l k) (frame_short sheet (passed sheet e).sound l (omega (arith, k, f)));
        each = λ i h.
            let k : i < line_count sheet - 2 = subst (λ m. i < m) found.long h in
            subst (λ m. KeepsLine (head sheet) m (suc (suc i)) (get_or found.lines i (opened 0))) (sym n)
            (subst (λ m. KeepsLine (head sheet) (line_count sheet) m (get_or found.lines i (opened 0))) (let z : 2 + i ≡ suc (suc i) = omega arith in z) (found.keeps i k));
        agree = λ l h r.
            let k : l < line_count sheet = omega (arith, h, n) in
            let q = kind_same l k in
            let g = given_none _ _ (first_none_each (result_fault sheet) (line_count sheet) (passed sheet e).agree l k) in
            let r1 : is_result (kind_at sheet l) ≡ true = subst (λ x. is_result x ≡ true) q r in
            let g1 : not (eqb (kind_at sheet l) (result_kind (head sheet).output)) ≡ false
            = subst (λ b. (b && not (eqb (kind_at sheet l) (result_kind (head sheet).output))) ≡ false) r1 g in
            q ∙ eqb-true (kind_at sheet l) (result_kind (head sheet).output) (not-false _ g1);
        last =
            let k : length (frames writing) - 1 < line_count sheet = omega (arith, n, t) in
            ap is_result (kind_same (length (frames writing) - 1) k)
            ∙ (ap (λ m. is_result (kind_at sheet (m - 1))) n ∙ not-false _ (given_none _ _ (passed sheet e).ended));
        small = subst (λ b. SmallProducts (script_of b)) (sym same_bytes) (small_products sheet e);
      }

  pub passing_written : (x : Writing) × ((writing_bytes x ≡ sheet) × KeepsRules x)
  passing_written = (writing, (same_bytes, keeps_rules))

pub sheet_law : SheetLaw
sheet_law = record { passes = written_passes; written = passing_written }
