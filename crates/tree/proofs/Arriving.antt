-- Lines that a walk arrives at, and the totals of the states there.
use Rattle.std.proofs.Common.{◌≡◌, ℕ, ◌*◌, ◌<◌, ◌≤◌, Bool, true, false, cond, ◌||◌, eqb, List, [], ◌∷◌, length, Some, None, Option, refl, ap, subst, mul_comm, mul-le-mul_left, le-mul_of_pos_right, arith}
use Rattle.std.proofs.lemmas.Bool.{eq-eqb}
use Rattle.std.specs.List.{AllByRecursion}
use Rattle.script.specs.Model.{Action, Branch, permute, shuffle, turn, committed, opened, none, LawfulAction, LawfulBranch, Onward}
use Rattle.protocol.specs.Machine.{same, target}
use Rattle.protocol.specs.States.{Row, total_of}
use Rattle.rows.specs.declared.row.Row as code
use Rattle.rows.specs.Views.{Small, Put}
use Rattle.sheet.specs.declared.states.CheckedScript.{CheckedScript}
use Rattle.sheet.specs.Products.{onward, total, leads, targets}
use Rattle.sheet.specs.Sheets.{script}
use Rattle.tree.specs.Walks.{Arrived, Held}

some_draws : (n lines l : ℕ) (a : Action) → LawfulAction n lines l a → 1 ≤ total a
some_draws n lines l (permute images next) h = omega arith
some_draws n lines l (shuffle draws next) h = h.0
some_draws n lines l (turn places branches) h = omega arith
some_draws n lines l (committed left right) h = omega arith
some_draws n lines l (opened value) h = omega arith
some_draws n lines l none h = omega arith

module _ (s : CheckedScript) (line : ℕ) (rows : List Row) (a : Arrived s line rows) where
  pub acts : LawfulAction (script s).cards (script s).lines line ((script s).action line)
  acts = a.standing.lawful.acts line a.standing.from_two a.standing.there

  pub small_here : Small (λ b. total_of b rows)
  small_here b h =
      let t = a.bounded b h in
      let k = a.small_products line a.product a.path in
      let g = le-mul_of_pos_right a.product (some_draws _ _ _ _ acts) in
      omega arith

  pub small_after : Small (λ b. total ((script s).action line) * total_of b rows)
  small_after b h =
      let t = mul-le-mul_left (total ((script s).action line)) (a.bounded b h) in
      let k = a.small_products line a.product a.path in
      let e = mul_comm a.product (total ((script s).action line)) in
      omega arith

  pub arrived_next : (next : ℕ) → leads ((script s).action line) next ≡ true → Onward (script s).lines line next → (after : List Row)
      → ((b : ℕ) → b < 8 → total_of b after ≤ total ((script s).action line) * total_of b rows) → Arrived s next after
  arrived_next next e o after h =
      record {
        standing = record { lawful = a.standing.lawful; from_two = (let f = a.standing.from_two in let g = o.later in omega arith); there = o.there };
        small_products = a.small_products;
        product = a.product * total ((script s).action line);
        path = onward line a.product next a.path e;
        bounded = λ b k.
            let t = mul-le-mul_left (total ((script s).action line)) (a.bounded b k) in
            let x = h b k in
            let c = mul_comm a.product (total ((script s).action line)) in
            omega arith;
      }

-- a state that was put somewhere is held there
pub held : (answer : Option ℕ) (state : List Row) (before after : List code.Row) → Put answer state before after → length after ≡ length before → Held answer state after
held None state before after h e = omega arith
held (Some m) state before after h e = (h.count, h.here)

pub put_fits : (answer : Option ℕ) (state : List Row) (before after : List code.Row) → Put answer state before after → length after ≡ length before → (m : ℕ) → answer ≡ Some m → m ≤ length after
put_fits None state before after h e m f = absurd (let z : ◌≡◌ {A = ℕ} 0 1 = cc in omega arith)
put_fits (Some n) state before after h e m f = let k : n ≡ m = cc in let r = h.room in omega arith

-- a branch that is taken
pub target_leads : (marks : List ℕ) (bs : List Branch) (x : ℕ) → target marks bs ≡ Some x → targets bs x ≡ true
target_leads marks [] x e = absurd (let z : ◌≡◌ {A = ℕ} 0 1 = cc in omega arith)
target_leads marks (b ∷ bs) x e = go (same b.marks marks) e (target_leads marks bs x)
  where
    go : (t : Bool) → cond t (Some b.target) (target marks bs) ≡ Some x → (target marks bs ≡ Some x → targets bs x ≡ true) → (eqb b.target x || targets bs x) ≡ true
    go true f ih = let k : b.target ≡ x = cc in ap (λ (t : Bool). t || targets bs x) (eq-eqb b.target x k)
    go false f ih = or_right (eqb b.target x) (ih f)
      where
        or_right : (t : Bool) {u : Bool} → u ≡ true → (t || u) ≡ true
        or_right true h = refl
        or_right false h = h

pub target_onward : (lines l t : ℕ) (marks : List ℕ) (bs : List Branch) (x : ℕ) → AllByRecursion (LawfulBranch lines l t) bs → target marks bs ≡ Some x → Onward lines l x
target_onward lines l t marks [] x h e = absurd (let z : ◌≡◌ {A = ℕ} 0 1 = cc in omega arith)
target_onward lines l t marks (b ∷ bs) x h e = go (same b.marks marks) e (target_onward lines l t marks bs x h.1)
  where
    go : (u : Bool) → cond u (Some b.target) (target marks bs) ≡ Some x → (target marks bs ≡ Some x → Onward lines l x) → Onward lines l x
    go true f ih = let k : b.target ≡ x = cc in subst (Onward lines l) k h.0.onward
    go false f ih = ih f
