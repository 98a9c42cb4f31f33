-- The lines of a sheet as the code steps over them.
use Rattle.std.proofs.Common.{◌≡◌, ℕ, zero, suc, ◌+◌, ◌-◌, ◌<◌, ◌≤◌, true, false, ltb, List, [], ◌∷◌, length, take, get_or, min, Some, sym, ap, ◌∙◌, subst, ⊎_elim, arith}
use Rattle.std.specs.Iterator.{Yields}
use Rattle.sheet.specs.declared.lines.Line.{Line}
use Rattle.sheet.specs.declared.lines.Lines.{Lines}
use Rattle.sheet.specs.Lines.{left, first_frame, after_first, frame, bad_length}
use Rattle.sheet.specs.Reading.{Split, Steps, bad_line}
use Rattle.std.proofs.lemmas.List.{length-take}
use Rattle.std.proofs.lemmas.Bool.{cases_lt, lt-ltb, le-ltb}
use Rattle.heads.specs.Faults.{sheet_fault}
use Rattle.sheet.specs.First.{first}
use Rattle.sheet.specs.Verdicts.{length_fault}
use Rattle.sheet.specs.Passing.{sound_length}
use Rattle.sheet.specs.Splitting.{left_zero, left_suc, empty_on, Walked, walked_more, walked_fault}

-- what is left after one line and so many more
left_after : (sheet : List ℕ) (l : ℕ) → left (after_first sheet) l ≡ left sheet (suc l)
left_after sheet zero = rw (left_zero (after_first sheet), left_suc sheet 0, left_zero sheet)
left_after sheet (suc l) = rw (left_suc (after_first sheet) l, left_after sheet l, ← left_suc sheet (suc l))

pub skipped : (xs : List Line) (s t : Lines) → Yields Steps s xs t → t.rest.now ≡ left s.rest.now (length xs)
skipped [] s t y = rw (left_zero s.rest.now, y)
skipped (x ∷ xs) s t y =
    let p = y.1 in
    skipped xs y.0 t y.2 ∙ (ap (λ r. left r (length xs)) p.rest ∙ left_after s.rest.now (length xs))

-- the frame that is found after so many lines, and none where the sheet ends before it
pub found_frame : (s t u : Lines) (xs : List Line) (x : Line) (n : ℕ) → Yields Steps s xs t → Split t x u → length xs ≡ n
    → x.frame.now ≡ frame s.rest.now n
found_frame s t u xs x n y p l = p.frame ∙ ap first_frame (skipped xs s t y ∙ ap (left s.rest.now) l)

pub no_frame : (s t : Lines) (xs : List Line) (n : ℕ) → Yields Steps s xs t → t.rest.now ≡ [] → length xs ≤ n → [] ≡ frame s.rest.now n
no_frame s t xs n y e l =
    let z : left s.rest.now (length xs + (n - length xs)) ≡ [] = empty_on s.rest.now (length xs) (n - length xs) (sym (skipped xs s t y) ∙ e) in
    let k : length xs + (n - length xs) ≡ n = omega arith in
    sym (ap first_frame (subst (λ j. left s.rest.now j ≡ []) k z))

-- a length byte is past the end where the frame is shorter than it says
past_end : (n : ℕ) (rest : List ℕ) → ltb (length (take n rest)) n ≡ ltb (length rest) n
past_end n rest = ⊎_elim
    (λ l. rw (lt-ltb (length rest) n l, length-take n rest) (lt-ltb (min n (length rest)) n (omega arith)))
    (λ l. rw (le-ltb (length rest) n l, length-take n rest) (le-ltb (min n (length rest)) n (omega arith)))
    (cases_lt (length rest) n)

split_bad : (l : ℕ) (rest : List ℕ) (x : Line) → 1 ≤ length rest → x.length ≡ get_or rest 0 0 → x.frame.now ≡ first_frame rest
    → bad_line l x ≡ bad_length l rest
split_bad l [] x some p q = absurd (omega arith)
split_bad l (n ∷ rest) x some p q = rw (p, q, past_end n rest)

module _ (sheet : List ℕ) (l : ℕ) (s : Lines) (x : Line) (t : Lines) (walked : Walked sheet l s.rest.now) (split : Split s x t) where
  pub line_bad : l ≤ 64 → bad_line l x ≡ true → first 65 (length_fault sheet) ≡ Some (sheet_fault 8 l 0)
  line_bad few e = walked_fault sheet l s.rest.now few walked (sym (split_bad l s.rest.now x split.some split.length split.frame) ∙ e)

  pub line_good : bad_line l x ≡ false → (l < 64) × Walked sheet (l + 1) t.rest.now
  line_good e =
      let g = sym (split_bad l s.rest.now x split.some split.length split.frame) ∙ e in (
        early s.rest.now split.some g,
        walked_more sheet l s.rest.now t.rest.now walked split.some g split.rest,
      )
    where
      early : (rest : List ℕ) → 1 ≤ length rest → bad_length l rest ≡ false → l < 64
      early [] some e = absurd (omega arith)
      early (n ∷ rest) some e = (sound_length n rest l e).early
