-- The weights of the entries of a shuffle: each byte at which an entry begins.
use Rattle.std.proofs.Common.{◌≡◌, ℕ, zero, suc, ◌≤◌, true, cond, List, [], ◌∷◌, length, drop, map, None, Some, Bor, sym, ap, ◌∙◌, subst, arith}
use Rattle.std.proofs.lemmas.List.{length-drop, length-map, drop_all}
use Rattle.std.proofs.lemmas.List.Sums.{sum-map}
use Rattle.std.proofs.lemmas.Iterator.{YieldsList}
use Rattle.std.proofs.lemmas.Iterator.Consumers.{YieldsList-from_shown}
use Rattle.std.specs.Iterator.{Yields}
use Rattle.std.specs.List.{sum}
use Rattle.std.specs.Iterator.Adapters.{step_by_steps, step_by_source, step_by_gap, step_by_first_take}
use Rattle.std.specs.Slice.Iter.{iter_rest, iter_steps}
use Rattle.std.specs.declared.iter.StepBy.{StepBy}
use Rattle.std.specs.declared.slice.Iter.{Iter}
use Rattle.cards.specs.Shuffles.{Entry, entries_in, entries_of, weights}
use Rattle.shuffles.specs.Entries.{entries_cons}

passed : (xs : List (Bor ℕ)) (s t : Iter ℕ) → Yields iter_steps s xs t → iter_rest t ≡ drop (length xs) (iter_rest s)
passed [] s t y = ap iter_rest (sym y)
passed (x ∷ xs) s t y = passed xs y.0 t y.2 ∙ sym (ap (drop (suc (length xs))) y.1)

-- what a walk by steps of an entry still has to give
abbrev to_come : StepBy (Iter ℕ) → List ℕ
to_come s = map (λ e. e.weight) (entries_of (step_by_gap s) (drop (cond (step_by_first_take s) 0 (step_by_gap s)) (iter_rest (step_by_source s))))

none_come : (s t : StepBy (Iter ℕ)) → step_by_steps iter_steps s None t → length (to_come s) ≡ 0
none_come s t h =
    let w = h.2 in
    let p = passed w.1 _ _ w.3.1 in
    let e : length (drop (length w.1) (iter_rest (step_by_source s))) ≡ 0 = ap length (sym p) ∙ w.3.2.0 in
    let l : length (iter_rest (step_by_source s)) ≤ w.0 = omega (arith, e, w.4, length-drop (length w.1) (iter_rest (step_by_source s))) in
    rw (← w.2, drop_all w.0 (iter_rest (step_by_source s)) l)

some_come : (s : StepBy (Iter ℕ)) (x : Bor ℕ) (t : StepBy (Iter ℕ)) → step_by_steps iter_steps s (Some x) t → to_come s ≡ x.now ∷ to_come t
some_come s x t h =
    let w = h.2 in
    let p : drop w.0 (iter_rest (step_by_source s)) ≡ x.now ∷ iter_rest (step_by_source t)
    = ap (λ n. drop n (iter_rest (step_by_source s))) (sym w.4) ∙ (sym (passed w.1 _ _ w.3.1) ∙ w.3.2) in
    rw (← w.2, p, h.0, h.1) (ap (map (λ (e : Entry). e.weight)) (entries_cons (step_by_gap s) x.now (iter_rest (step_by_source t))))

pub weights_come : (s : StepBy (Iter ℕ)) (q : ℕ) (bytes : List ℕ) → iter_rest (step_by_source s) ≡ bytes → step_by_gap s ≡ q → step_by_first_take s ≡ true
    → YieldsList (step_by_steps iter_steps) (λ x. x.now) s (map (λ e. e.weight) (entries_of q bytes))
weights_come s q bytes r g f =
    subst (YieldsList (step_by_steps iter_steps) (λ x. x.now) s) (rw (r, g, f))
    (YieldsList-from_shown (step_by_steps iter_steps) (λ x. x.now) to_come none_come some_come s)

-- so many bytes write no more entries
entries_few : (n q : ℕ) (bytes : List ℕ) → length (entries_in n q bytes) ≤ n
entries_few zero q bytes = omega arith
entries_few (suc n) q [] = omega arith
entries_few (suc n) q (w ∷ bytes) = let k = entries_few n q (drop q bytes) in omega arith

pub weights_few : (q : ℕ) (bytes : List ℕ) → length bytes ≤ 128 → length (map (λ e. e.weight) (entries_of q bytes)) ≤ 128
weights_few q bytes l = rw length-map (omega (arith, entries_few (length bytes) q bytes))

pub weights_sum : (q : ℕ) (bytes : List ℕ) → sum (map (λ x. x) (map (λ e. e.weight) (entries_of q bytes))) ≡ weights (entries_of q bytes)
weights_sum q bytes = sum-map (λ x. x) (map (λ e. e.weight) (entries_of q bytes)) ∙ sum-map (λ e. e.weight) (entries_of q bytes)
