-- The lines of a sheet, one after another.
use Rattle.std.specs.Prelude.{◌≡◌, ℕ, zero, suc, ◌+◌, ◌-◌, ◌≤◌, true, false, List, [], ◌∷◌, length, Some, None, refl}
use Rattle.std.proofs.Common.{add-zero, add-suc, add-one, arith, ⊎_elim, sym, ap, ◌∙◌, subst}
use Rattle.std.proofs.lemmas.List.{nil_from_length}
use Rattle.std.proofs.lemmas.Bool.{cases_lt}
use Rattle.heads.specs.Faults.{sheet_fault}
use Rattle.sheet.specs.First.{first, given, value_or}
use Rattle.sheet.specs.Lines.{left, after_first, bad_length, no_more}
use Rattle.sheet.specs.Verdicts.{length_fault}
use Rattle.sheet.specs.Counting.{Counted}
use Rattle.sheet.specs.Firsts.{first_zero, first_more, first_none_each, first_from_each, first_some}

pub left_zero : (sheet : List ℕ) → left sheet 0 ≡ sheet
unfolding left
left_zero sheet = refl

pub left_suc : (sheet : List ℕ) (l : ℕ) → left sheet (suc l) ≡ after_first (left sheet l)
unfolding left
left_suc sheet l = refl

pub left_more : (sheet : List ℕ) (l : ℕ) → left sheet (l + 1) ≡ after_first (left sheet l)
left_more sheet l = rw (add-one, left_suc sheet l)

-- the first so many lines have sound length bytes, and the sheet does not end before them
module _ (sheet : List ℕ) where
  pub record Walked (l : ℕ) (rest : List ℕ) : Type 0 where
    pub here : rest ≡ left sheet l
    pub sound : first l (length_fault sheet) ≡ None
    pub longer : first l (λ line. given (no_more (left sheet line)) line) ≡ None

  pub walked_none : Walked 0 sheet
  walked_none = record { here = sym (left_zero sheet); sound = first_zero _; longer = first_zero _ }

  no_fault : (l : ℕ) (rest : List ℕ) → rest ≡ left sheet l → bad_length l rest ≡ false → length_fault sheet l ≡ None
  no_fault l rest e f = rw (← e, f)

  pub walked_more : (l : ℕ) (rest after : List ℕ) → Walked l rest → 1 ≤ length rest → bad_length l rest ≡ false
      → after ≡ after_first rest → Walked (l + 1) after
  walked_more l rest after w i f e =
      record {
        here = e ∙ (ap after_first w.here ∙ sym (left_more sheet l));
        sound = first_more (length_fault sheet) l w.sound (no_fault l rest w.here f);
        longer = first_more (λ line. given (no_more (left sheet line)) line) l w.longer
            (let p = w.here in rw (← p) (some_left rest i));
      }
    where
      some_left : (xs : List ℕ) → 1 ≤ length xs → given (no_more xs) l ≡ None
      some_left [] k = absurd (omega arith)
      some_left (x ∷ xs) k = refl

  pub walked_fault : (l : ℕ) (rest : List ℕ) → l ≤ 64 → Walked l rest → bad_length l rest ≡ true
      → first 65 (length_fault sheet) ≡ Some (sheet_fault 8 l 0)
  walked_fault l rest i w f =
      first_some (length_fault sheet) l 65 _ (omega arith) w.sound (let p = w.here in rw (← p, f))

  -- after the end there is nothing
  pub empty_on : (l k : ℕ) → left sheet l ≡ [] → left sheet (l + k) ≡ []
  empty_on l zero e = rw add-zero e
  empty_on l (suc k) e = rw (add-suc, left_suc sheet (l + k), empty_on l k e)

  pub walked_end : (l : ℕ) (rest : List ℕ) → l ≤ 64 → Walked l rest → length rest ≡ 0 → Counted sheet l
  walked_end l rest i w e =
      let nil : left sheet l ≡ [] = sym w.here ∙ nil_from_length rest e in
      record {
        sound = first_from_each (length_fault sheet) 65 (λ k h.
            ⊎_elim (λ p. first_none_each (length_fault sheet) l w.sound k p)
            (λ p. let z : left sheet k ≡ [] = subst (λ j. left sheet j ≡ []) (let q : l + (k - l) ≡ k = omega arith in q) (empty_on l (k - l) nil) in rw z)
            (cases_lt k l));
        count = sym (ap (value_or 0) (first_some (λ line. given (no_more (left sheet line)) line) l 65 l (omega arith) w.longer (rw nil)));
        few = i;
        over = nil;
      }
