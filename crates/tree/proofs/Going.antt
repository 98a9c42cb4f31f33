-- A walk that goes on with the same script, deck, bank and marks.
use Rattle.std.proofs.Common.{◌≡◌, ℕ, ◌+◌, ◌≤◌, List, Ok, Err, Result, OnOk, OnErr, ap, subst, arith}
use Rattle.arrayvec.specs.ArrayVec.{ArrayVec, array_vec_len}
use Rattle.sheet.specs.declared.states.CheckedScript.{CheckedScript}
use Rattle.tree.specs.declared.walk.Walk.{Walk}
use Rattle.tree.specs.Walks.{Kept}

module _ {V D B : Type 0} (before after : Walk V D B) (k : Kept before after) where
  -- what holds of the one holds of the other
  pub on_kept : (P : CheckedScript → D → B → List ℕ → Type 0) → P after.script.now after.deck.now after.bank.now after.trace.items → P before.script.now before.deck.now before.bank.now before.trace.items
  on_kept P h =
      subst (λ (x : CheckedScript). P x before.deck.now before.bank.now before.trace.items) k.script
      (subst (λ (x : D). P after.script.now x before.bank.now before.trace.items) k.deck
      (subst (λ (x : B). P after.script.now after.deck.now x before.trace.items) k.bank
      (subst (λ (x : List ℕ). P after.script.now after.deck.now after.bank.now x) k.trace h)))

-- the marks that are added, or were not
pub has_room : {E : Type 0} (r : Result (Unit {0}) E) (before after : ArrayVec ℕ) (n : ℕ) → OnOk r (array_vec_len after ≡ array_vec_len before + n) → OnErr r (after ≡ before)
    → array_vec_len after ≤ array_vec_len before + n
has_room (Ok x) before after n h k = omega arith
has_room (Err x) before after n h k = let e = ap (λ (v : ArrayVec ℕ). array_vec_len v) k in omega arith
