-- What a search over the lines, and over the codes of the players, finds first.
use Rattle.std.proofs.Common.{◌≡◌, ℕ, ◌+◌, ◌-◌, ◌*◌, ◌<◌, ◌≤◌, true, false, ◌||◌, eqb, List, [], ◌∷◌, Some, None, Option, sym, refl, ap, arith}
use Rattle.std.specs.List.{list_any}
use Rattle.std.specs.Option.{MatchOption}
use Rattle.cards.specs.Lists.{member}
use Rattle.heads.specs.Faults.{sheet_fault}
use Rattle.sheet.specs.First.{first}
use Rattle.sheet.specs.Verdicts.{missing_code, differs, result_fault}
use Rattle.sheet.specs.Firsts.{first_from_each, first_some}

pub member_any : (x : ℕ) (ys : List ℕ) → list_any (λ y. eqb y x) ys ≡ member x ys
member_any x [] = refl
member_any x (y ∷ ys) = ap (λ t. eqb y x || t) (member_any x ys)

-- the first code from 16 on that no place has
pub missing_found : (k : ℕ) (codes : List ℕ) (r : Option ℕ)
    → MatchOption r ((j : ℕ) → 16 ≤ j → j < 16 + 2 * k → member j codes ≡ true)
    (λ i. (16 ≤ i) × (i < 16 + 2 * k) × (member i codes ≡ false) × ((j : ℕ) → 16 ≤ j → j < i → member j codes ≡ true))
    → r ≡ missing_code k codes
missing_found k codes None h = sym (first_from_each _ (2 * k) (λ l p. rw (h (16 + l) (omega arith) (omega arith))))
missing_found k codes (Some i) h =
    let l : 16 + (i - 16) ≡ i = omega (arith, h.0) in
    sym (first_some _ (i - 16) (2 * k) i (omega (arith, h.0, h.1))
    (first_from_each _ (i - 16) (λ j p. rw (h.3 (16 + j) (omega arith) (omega (arith, h.0)))))
    (rw (l, h.2)))

-- the first line that differs
pub results_found : (sheet : List ℕ) (lines : ℕ) (r : Option ℕ)
    → MatchOption r ((k : ℕ) → 0 ≤ k → k < lines → differs sheet k ≡ false)
    (λ i. (0 ≤ i) × (i < lines) × (differs sheet i ≡ true) × ((k : ℕ) → 0 ≤ k → k < i → differs sheet k ≡ false))
    → MatchOption r (first lines (result_fault sheet) ≡ None) (λ i. first lines (result_fault sheet) ≡ Some (sheet_fault 17 i 0))
results_found sheet lines None h = first_from_each _ lines (λ l p. rw (h l (omega arith) p))
results_found sheet lines (Some i) h =
    first_some _ i lines _ h.1 (first_from_each _ i (λ k p. rw (h.3 k (omega arith) p))) (rw h.2)
