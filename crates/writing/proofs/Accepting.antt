-- A list that keeps a rule at each index is accepted, and the rest is left.
use Rattle.std.proofs.Common.{◌≡◌, ℕ, zero, suc, ◌+◌, ◌<◌, Bool, true, List, [], ◌∷◌, ◌++◌, length, get_or, take, sym, ap, ◌∙◌, subst, add-zero, arith}
use Rattle.std.proofs.lemmas.List.{append-nil, append_assoc}
use Rattle.format.specs.Form.{Form, wrong, listed}

module _ (rule : List ℕ → ℕ → Bool) (next : List ℕ → Form) where
  pub listed_accepts : (n from : ℕ) (before xs rest : List ℕ) → length xs ≡ n
      → ((i : ℕ) → i < n → rule (before ++ take i xs) (get_or xs i 0) ≡ true)
      → wrong from (listed n rule before next) (xs ++ rest) ≡ wrong (from + n) (next (before ++ xs)) rest
  listed_accepts zero from before [] rest e each = rw (add-zero, append-nil before)
  listed_accepts zero from before (x ∷ xs) rest e each = absurd (omega arith)
  listed_accepts (suc n) from before [] rest e each = absurd (omega arith)
  listed_accepts (suc n) from before (x ∷ xs) rest e each =
      let t : rule before x ≡ true = subst (λ b. rule b x ≡ true) (append-nil before) (each 0 (omega arith)) in
      let f : suc from + n ≡ from + suc n = omega arith in
      let p = listed_accepts n (suc from) (before ++ x ∷ []) xs rest (omega arith) (λ i h.
      subst (λ b. rule b (get_or xs i 0) ≡ true) (sym (append_assoc before (x ∷ []) (take i xs))) (each (suc i) (omega arith))) in
      rw t (p ∙ (ap (λ k. wrong k (next ((before ++ x ∷ []) ++ xs)) rest) f
      ∙ ap (λ b. wrong (from + suc n) (next b) rest) (append_assoc before (x ∷ []) xs)))
