-- The first of several answers, one step on and at the end.
use Rattle.std.specs.Prelude.{◌≡◌, ℕ, zero, suc, ◌+◌, ◌<◌, Bool, true, false, ◌⊎◌, Some, None, Option, ◌≢◌}
use Rattle.std.proofs.Common.{add-one, arith, inl, inr, ⊎_elim, sym, ◌∙◌, subst}
use Rattle.std.proofs.Math.Path.{refl}
use Rattle.std.proofs.lemmas.Bool.{cases_order}
use Rattle.sheet.specs.First.{or_else, first, given, mapped}

pub some_none : {X : Type 0} (x : X) (o : Option X) → o ≡ Some x → o ≢ None
some_none x o p q = let z : ◌≡◌ {A = ℕ} 0 1 = cc in omega arith

pub or_else_none : {X : Type 0} (o y : Option X) → or_else o y ≡ None → (o ≡ None) × (y ≡ None)
or_else_none None y e = (refl, e)
or_else_none (Some x) y e = absurd (some_none x (Some x) refl e)

pub or_else_some : {X : Type 0} (o y : Option X) (x : X) → or_else o y ≡ Some x → (o ≡ Some x) ⊎ (y ≡ Some x)
or_else_some None y x e = inr e
or_else_some (Some z) y x e = inl e

pub given_some : (t : Bool) (n x : ℕ) → given t n ≡ Some x → n ≡ x
given_some true n x e = cc
given_some false n x e = absurd (some_none x None e refl)

pub given_none : {X : Type 0} (t : Bool) (x : X) → given t x ≡ None → t ≡ false
given_none true x e = absurd (some_none x (Some x) refl e)
given_none false x e = refl

pub mapped_none : {X Y : Type 0} (f : X → Y) (o : Option X) → mapped f o ≡ None → o ≡ None
mapped_none f None e = refl
mapped_none f (Some x) e = absurd (some_none (f x) (Some (f x)) refl e)

module _ {X : Type 0} (f : ℕ → Option X) where
  pub first_zero : first 0 f ≡ None
  unfolding first
  first_zero = refl

  pub first_suc : (n : ℕ) → first (suc n) f ≡ or_else (first n f) (f n)
  unfolding first
  first_suc n = refl

  pub first_more : (i : ℕ) → first i f ≡ None → f i ≡ None → first (i + 1) f ≡ None
  first_more i e g = rw (add-one, first_suc i, e, g)

  pub first_at : (i : ℕ) (x : X) → first i f ≡ None → f i ≡ Some x → first (suc i) f ≡ Some x
  first_at i x e g = rw (first_suc i, e, g)

  kept : (n : ℕ) (x : X) → first n f ≡ Some x → first (suc n) f ≡ Some x
  kept n x e = rw (first_suc n, e)

  pub first_some : (i n : ℕ) (x : X) → i < n → first i f ≡ None → f i ≡ Some x → first n f ≡ Some x
  first_some i zero x l e g = absurd (omega arith)
  first_some i (suc n) x l e g =
      ⊎_elim
      (λ p. subst (λ k. first (suc k) f ≡ Some x) p (first_at i x e g))
      (⊎_elim (λ p. kept n x (first_some i n x p e g)) (λ p. absurd (omega arith)))
      (cases_order i n)

  pub first_none_each : (n : ℕ) → first n f ≡ None → (l : ℕ) → l < n → f l ≡ None
  first_none_each zero e l h = absurd (omega arith)
  first_none_each (suc n) e l h =
      let p = or_else_none (first n f) (f n) (sym (first_suc n) ∙ e) in
      ⊎_elim
      (λ q. rw q p.1)
      (⊎_elim (λ q. first_none_each n p.0 l q) (λ q. absurd (omega arith)))
      (cases_order l n)

  pub first_from_each : (n : ℕ) → ((l : ℕ) → l < n → f l ≡ None) → first n f ≡ None
  first_from_each zero g = first_zero
  first_from_each (suc n) g =
      rw (first_suc n, first_from_each n (λ l h. g l (omega arith)), g n (omega arith))

pub given_true : (t : Bool) (n x : ℕ) → given t n ≡ Some x → t ≡ true
given_true true n x e = refl
given_true false n x e = absurd (some_none x None e refl)

-- what is found passes the test
pub found_at : (n : ℕ) (f : ℕ → Bool) (x : ℕ) → first n (λ l. given (f l) l) ≡ Some x → f x ≡ true
found_at zero f x e = absurd (some_none x _ e (first_zero (λ l. given (f l) l)))
found_at (suc n) f x e =
    ⊎_elim
    (λ p. found_at n f x p)
    (λ p. subst (λ k. f k ≡ true) (given_some (f n) n x p) (given_true (f n) n x p))
    (or_else_some _ _ x (sym (first_suc (λ l. given (f l) l) n) ∙ e))
