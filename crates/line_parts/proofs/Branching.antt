-- The images of a permute's places, and the branch with given marks.
use Rattle.std.proofs.Common.{◌≡◌, ℕ, pred, ◌-◌, ◌<◌, ◌≤◌, Bool, true, false, cond, List, [], ◌∷◌, map, length, get_or, Some, None, Option, sym, refl, ap, ◌∙◌, sub-one, arith}
use Rattle.std.specs.List.{find}
use Rattle.std.specs.Option.{option_map, MatchOption, IsSomeAnd}
use Rattle.std.proofs.lemmas.List.{get_or-map, get_or_past, length-map}
use Rattle.protocol.specs.Machine.{same, target}
use Rattle.script.specs.Model.{Branch}
use Rattle.sheet.specs.Branching.{branch_view}
use Rattle.sheet.specs.declared.branches.Branch as code

pub image_there : (places : List ℕ) (s x : ℕ) → s < length places → x ≡ get_or places s 0 - 1 → x ≡ get_or (map pred places) s s
image_there places s x h e = e ∙ sub-one (get_or places s 0) ∙ sym (get_or-map pred places s 0 s h)

pub image_past : (places : List ℕ) (s : ℕ) → length places ≤ s → s ≡ get_or (map pred places) s s
image_past places s h = sym (get_or_past (map pred places) s s (let e = length-map places pred in omega arith))

abbrev pub has_marks : List ℕ → Branch → Bool
has_marks marks b = same b.marks marks

pub target_is : (marks : List ℕ) (bs : List Branch) → option_map (λ b. b.target) (find (has_marks marks) bs) ≡ target marks bs
target_is marks [] = refl
target_is marks (b ∷ bs) =
    elim (same b.marks marks) as (λ t. option_map (λ b. b.target) (cond t (Some b) (find (has_marks marks) bs)) ≡ cond t (Some b.target) (target marks bs)) [
      | true ↦ refl
      | false ↦ target_is marks bs
    ]

-- the target of the branch that was found
pub target_found : (o : Option code.Branch) (a : Option ℕ) (post : code.Branch → ℕ → Type 0) → MatchOption o (a ≡ None) (λ x. IsSomeAnd a (post x)) → ((x : code.Branch) (y : ℕ) → post x y → y ≡ x.target) → a ≡ option_map (λ b. b.target) (option_map branch_view o)
target_found None a post h is = h
target_found (Some x) None post h is = absurd h
target_found (Some x) (Some y) post h is = ap (λ (n : ℕ). Some n) (is x y h)
