-- Tests on the numbers below a bound, and the first that passes.
use Rattle.std.proofs.Common.{◌≡◌, ℕ, zero, suc, ◌<◌, Bool, true, false, ◌||◌, List, [], ◌∷◌, ◌++◌, map, refl, sym, ap, ◌∙◌, map-id, zero-add, add-one, arith}
use Rattle.std.specs.List.{list_any, range_with_len}
use Rattle.std.proofs.lemmas.List.Folds.{list_any-append}
use Rattle.std.proofs.lemmas.List.FromFn.{map-range_with_len_more}
use Rattle.protocol.specs.States.{any_below}

pub any_same : (n : ℕ) (f g : ℕ → Bool) → ((k : ℕ) → k < n → f k ≡ g k) → any_below n f ≡ any_below n g
any_same zero f g h = refl
any_same (suc n) f g h =
    ap (λ (b : Bool). b || f n) (any_same n f g (λ k l. h k (omega arith)))
    ∙ ap (λ (b : Bool). any_below n g || b) (h n (omega arith))

one_more : (n : ℕ) → range_with_len 0 (suc n) ≡ range_with_len 0 n ++ n ∷ []
one_more n =
    sym (map-id (range_with_len 0 (suc n))) ∙ ap (λ (k : ℕ). map (λ x. x) (range_with_len 0 k)) (sym (add-one n))
    ∙ map-range_with_len_more (λ x. x) 0 n n (zero-add n) ∙ ap (λ (xs : List ℕ). xs ++ n ∷ []) (map-id (range_with_len 0 n))

or-false : (b : Bool) → (b || false) ≡ b
or-false true = refl
or-false false = refl

pub any_range : (test : ℕ → Bool) (n : ℕ) → list_any test (range_with_len 0 n) ≡ any_below n test
any_range test zero = refl
any_range test (suc n) =
    ap (list_any test) (one_more n) ∙ list_any-append test (range_with_len 0 n) (n ∷ [])
    ∙ ap (λ (b : Bool). b || (test n || false)) (any_range test n) ∙ ap (λ (b : Bool). any_below n test || b) (or-false (test n))
