-- The first element of a slice at which `find_map` stops, where its closure changes nothing.
use Rattle.std.proofs.Common.{◌≡◌, ℕ, zero, suc, ◌+◌, ◌<◌, Bool, true, false, IsTrue, List, [], ◌∷◌, length, get_or, Some, None, Option, refl, ap, ◌∙◌, subst, arith}
use denote.Param.Members.{Mut}
use denote.Ref.{Bor}
use Rattle.std.specs.Fn.{Called}
use Rattle.std.specs.Option.{option_or, option_map, MatchOption, IsSomeAnd, IfSome}
use Rattle.std.specs.Iterator.Runs.{Run, ItemsMapTo, AllItemsGive, IsFirstToGive}

-- what a function gives at the first element at which it gives something
abbrev pub first_some : {A C : Type 0} → (A → Option C) → List A → Option C
first_some gives [] = None
first_some gives (x ∷ xs) = option_or (gives x) (first_some gives xs)

-- the element at place k gives this
abbrev pub GivesAt : {A C : Type 0} → (A → Option C) → List A → ℕ → Option C → Type 0
GivesAt {A} gives xs k o = (x : A) × (x ≡ get_or xs k x) × (o ≡ gives x)

pub none_given : {A C : Type 0} (gives : A → Option C) (xs : List A) → ((k : ℕ) → k < length xs → GivesAt gives xs k None) → None ≡ first_some gives xs
none_given gives [] h = refl
none_given gives (x ∷ xs) h =
    let first = h 0 (omega arith) in
    let e : None ≡ gives x = first.2 ∙ ap gives first.1 in
    none_given gives xs (λ k l. h (suc k) (omega arith)) ∙ ap (λ o. option_or o (first_some gives xs)) e

pub some_given : {A C : Type 0} (gives : A → Option C) (c : C) (xs : List A) (i : ℕ) → i < length xs → GivesAt gives xs i (Some c) → ((k : ℕ) → k < i → GivesAt gives xs k None) → Some c ≡ first_some gives xs
some_given gives c [] i l at h = absurd (omega arith)
some_given gives c (x ∷ xs) zero l at h = ap (λ o. option_or o (first_some gives xs)) (at.2 ∙ ap gives at.1)
some_given gives c (x ∷ xs) (suc i) l at h =
    let first = h 0 (omega arith) in
    let e : None ≡ gives x = first.2 ∙ ap gives first.1 in
    some_given gives c xs i (omega arith) at (λ k m. h (suc k) (omega arith)) ∙ ap (λ o. option_or o (first_some gives xs)) e

module _ {A B C F : Type 0} (g : Mut F (Bor A × Unit {0}) (Option B)) (f : F) (view : Option B → Option C) (gives : A → Option C) (call : (x : Bor A) (o : Option B) (q : F) → Called g f (x, tt) o q → (q ≡ f) × (view o ≡ gives x.now)) where
  item : (xs : List A) (v : Option B) (o : Option (Bor A)) (k : ℕ) → IsSomeAnd o (λ x. Called g f (x, tt) v f) → IfSome o (λ x. x.now ≡ get_or xs k x.now) → GivesAt gives xs k (view v)
  item xs v None k h e = absurd h
  item xs v (Some x) k h e = (x.now, e, (call x v f h).1)

  there : (xs : List A) (v : Option B) (o : Option (Bor A)) (k : ℕ) (d : A) → option_map (λ x. x.now) o ≡ Some (get_or xs k d) → IfSome o (λ x. Called g f (x, tt) v f) → IsSomeAnd o (λ x. Called g f (x, tt) v f)
  there xs v None k d e h = absurd (let z : ◌≡◌ {A = ℕ} 0 1 = cc in omega arith)
  there xs v (Some x) k d e h = h

  is_true : (b : Bool) → IsTrue b → b ≡ true
  is_true true h = refl
  is_true false h = h

  keeps : (a : Bor A × Unit {0}) (o : Option B) (q : F) → Called g f a o q → q ≡ f
  keeps a o q k = (call a.0 o q k).0

  pub found_first : {S : Type 0} {steps : S → Option (Bor A) → S → Type 0} (h : B → C) (d : A) (xs : List A) (r : Option B) (p : Run steps) → view None ≡ None → ((y : B) → view (Some y) ≡ Some (h y)) → ItemsMapTo p (λ y. y.now) xs → MatchOption r (IsTrue p.whole × AllItemsGive p g f None) (λ y. (i : ℕ) × (i < p.len) × (p.len ≡ i + 1) × IsFirstToGive p g f (Some y) None i) → view r ≡ first_some gives xs
  found_first h d xs None p none some reads m =
      let long = reads.1 (is_true p.whole m.0) in
      let all = m.1 keeps in
      none ∙ none_given gives xs (λ k l. subst (λ (o : Option C). GivesAt gives xs k o) none (item xs None (p.at k) k (there xs None (p.at k) k d (reads.2 k d (omega arith)) (all k)) (reads.8 k)))
  found_first h d xs (Some y) p none some reads m =
      let i : ℕ = m.0 in
      let first = m.3 keeps in
      let within = reads.0 in
      let own : i < p.len = m.1 in
      some y ∙ some_given gives (h y) xs i (omega arith)
      (subst (λ (o : Option C). GivesAt gives xs i o) (some y) (item xs (Some y) (p.at i) i first.0 (reads.8 i)))
      (λ k l. subst (λ (o : Option C). GivesAt gives xs k o) none (item xs None (p.at k) k (first.1 k l) (reads.8 k)))
