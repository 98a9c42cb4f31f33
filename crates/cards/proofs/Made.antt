-- What `array::from_fn` makes with a closure that changes nothing.
use Rattle.std.proofs.Common.{◌≡◌, ℕ, zero, suc, ◌+◌, ◌<◌, List, get_or, refl, ◌∙◌, subst, zero-add, arith}
use Rattle.std.proofs.lemmas.List.FromFn.{fill_by_all}
use Rattle.std.specs.Array.{IsFromFnResultFrom, IsFromFnResult}
use Rattle.std.specs.Fn.{Called}
use denote.Param.Members.{Mut}
use Rattle.cards.specs.Lists.{table}

module _ {F : Type 0} (g : Mut F (ℕ × Unit {0}) ℕ) (made : ℕ → ℕ) (f : F) (all : ℕ) (step : (i y : ℕ) (q : F) → i < all → Called g f (i, tt) y q → (y ≡ made i) × (q ≡ f)) where
  made_each : (ys : List ℕ) (n i k j : ℕ) (p : F) → p ≡ f → IsFromFnResultFrom g p ys i n → k < n → i + k ≡ j → j < all → get_or ys j 0 ≡ made j
  made_each ys zero i k j p e m l h within = absurd (omega arith)
  made_each ys (suc n) i zero j p e m l h within =
      let s = step i m.1 m.0 (omega arith) (subst (λ (x : F). Called g x (i, tt) m.1 m.0) e m.3) in
      subst (λ (x : ℕ). get_or ys x 0 ≡ made x) (let q : i ≡ j = omega arith in q) (m.2.1 0 ∙ s.0)
  made_each ys (suc n) i (suc k) j p e m l h within =
      let s = step i m.1 m.0 (omega arith) (subst (λ (x : F). Called g x (i, tt) m.1 m.0) e m.3) in
      made_each ys n (i + 1) k j m.0 s.1 m.4 (omega arith) (omega arith) within

  -- of the closure's calls only those below the length count
  pub made_below : (ys : List ℕ) → IsFromFnResult g f ys all → ys ≡ table all made
  made_below ys r =
      fill_by_all made ys all 0 r.long (λ k l. made_each ys all 0 k k f refl r.each l (zero-add k) l)

pub made_table : {F : Type 0} (g : Mut F (ℕ × Unit {0}) ℕ) (made : ℕ → ℕ) (f : F) (step : (i y : ℕ) (q : F) → Called g f (i, tt) y q → (y ≡ made i) × (q ≡ f)) (ys : List ℕ) (n : ℕ) → IsFromFnResult g f ys n → ys ≡ table n made
made_table g made f step ys n r = made_below g made f n (λ i y q within called. step i y q called) ys r
