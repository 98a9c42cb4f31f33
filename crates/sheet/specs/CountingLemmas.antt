-- The lines of a sheet that passes are counted.
use Rattle.std.specs.Prelude.{◌≡◌, ℕ, ◌<◌, ◌≤◌, true, false, ◌⊎◌, List, [], ◌∷◌, Some, None, Option, ◌≢◌, refl}
use Rattle.std.proofs.Common.{arith, ⊎_elim}
use Rattle.sheet.specs.First.{first, given, value_or}
use Rattle.sheet.specs.Lines.{left, frame, no_more, line_count, bad_length}
use Rattle.sheet.specs.Verdicts.{verdict}
use Rattle.sheet.specs.Counting.{Counted}
use Rattle.sheet.specs.Firsts.{first_none_each, found_at, given_none}
use Rattle.sheet.specs.Lawful.{few_lines}
use Rattle.sheet.specs.Passed.{passed, frames_read}
use Rattle.sheet.specs.Acting.{parts_early, parts_late}
use Rattle.sheet.specs.Scripts.{head}
use Rattle.format.specs.Parts.{parts, none}
use Rattle.sheet.specs.Passing.{sound_line, sound_length}
use Rattle.std.proofs.lemmas.Bool.{false≢true, true≢false}

nothing_more : (xs : List ℕ) → no_more xs ≡ true → xs ≡ []
nothing_more [] e = refl
nothing_more (x ∷ xs) e = absurd (false≢true e)

some_more : (xs : List ℕ) → no_more xs ≡ false → bad_length 64 xs ≢ false
some_more [] e f = true≢false e
some_more (n ∷ xs) e f = let s = sound_length n xs 64 f in omega (arith, s.early)

pub counted_sheet : (sheet : List ℕ) → verdict sheet ≡ None → Counted sheet (line_count sheet)
counted_sheet sheet e =
    record {
      sound = (passed sheet e).sound;
      count = refl;
      few = few_lines sheet e;
      over = ended (first 65 (λ line. given (no_more (left sheet line)) line)) refl;
    }
  where
    ended : (o : Option ℕ) → first 65 (λ line. given (no_more (left sheet line)) line) ≡ o → left sheet (value_or 0 o) ≡ []
    ended None q =
        absurd (some_more (left sheet 64) (given_none _ _ (first_none_each (λ line. given (no_more (left sheet line)) line) 65 q 64 (omega arith)))
        (sound_line sheet (passed sheet e).sound 64 (omega arith)))
    ended (Some x) q = nothing_more (left sheet x) (found_at 65 (λ line. no_more (left sheet line)) x q)

-- a line that is no line of the script, or the head or the layout, has no parts
pub no_parts : (sheet : List ℕ) → verdict sheet ≡ None → (line : ℕ) → (line < 2) ⊎ (line_count sheet ≤ line) → parts (frame sheet line) ≡ none
no_parts sheet e line h =
    let c = counted_sheet sheet e in
    let r = frames_read sheet (line_count sheet) (head sheet) e c refl in
    let many = (passed sheet e).many in
    ⊎_elim
    (λ i. parts_early sheet (line_count sheet) c (head sheet) r many line i)
    (λ i. parts_late sheet (line_count sheet) c (head sheet) r many line i)
    h
