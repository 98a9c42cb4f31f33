-- How a walk goes on from one list of events to the next, and at a node.
use Rattle.std.proofs.Common.{◌≡◌, ℕ, zero, suc, ◌+◌, ◌<◌, ◌≤◌, List, [], ◌∷◌, ◌++◌, length, Some, None, Ok, Err, Option, Result, sym, refl, ap, ◌∙◌, subst, add-zero, arith}
use Rattle.std.proofs.lemmas.Bool.{le-leb, lt-leb, lt-ltb, le-ltb}
use Rattle.script.specs.Model.{Branch}
use Rattle.script.specs.Faults.{Fault}
use Rattle.protocol.specs.Machine.{Protocol, action_at, target}
use Rattle.protocol.specs.States.{Child}
use Rattle.protocol.specs.Tree.{Node, Event, made, missing, nodes_in, child_events, turn_events, events_below, subtree, bench_rows, tree_fault, offence}
use Rattle.tree.specs.Walks.{Walked, over, refused, visited}

module _ {V : Type 0} (visits : Node → V → V → Type 0) (bench : ℕ) where
  walked_on : (es fs : List Event) (count n : ℕ) (a b c : V) (r answer : Result ℕ Fault) → Walked visits bench es count a b r → r ≡ Ok n → Walked visits bench fs n b c answer
      → Walked visits bench (es ++ fs) count a c answer
  walked_on _ fs _ n _ _ c _ answer (over k v) e w = let f : n ≡ k = cc in subst (λ (x : ℕ). Walked visits bench fs x v c answer) f w
  walked_on _ fs _ n _ _ c _ answer (refused x es k v f o) e w = absurd (let z : ◌≡◌ {A = ℕ} 0 1 = cc in omega arith)
  walked_on _ fs _ n _ _ c _ answer (visited u es a m b r o h k) e w =
      visited u (es ++ fs) a m c answer o h (walked_on es fs (suc u.number) n m b c r answer k e w)

  walked_no_more : (es fs : List Event) (count : ℕ) (a b : V) (f : Fault) (r : Result ℕ Fault) → Walked visits bench es count a b r → r ≡ Err f → Walked visits bench (es ++ fs) count a b (Err f)
  walked_no_more _ fs _ _ _ f _ (over k v) e = absurd (let z : ◌≡◌ {A = ℕ} 0 1 = cc in omega arith)
  walked_no_more _ fs _ _ _ f _ (refused x es k v g o) e = let h : g ≡ f = cc in refused x (es ++ fs) k v f (o ∙ ap (λ (y : Fault). Some y) h)
  walked_no_more _ fs _ _ _ f _ (visited u es a m b r o h k) e =
      visited u (es ++ fs) a m b (Err f) o h (walked_no_more es fs (suc u.number) m b f r k e)

  walked_count : (es : List Event) (count n : ℕ) (a b : V) (r : Result ℕ Fault) → Walked visits bench es count a b r → r ≡ Ok n → n ≡ count + length (nodes_in es)
  walked_count _ _ n _ _ _ (over k v) e = let f : n ≡ k = cc in f ∙ sym (add-zero k)
  walked_count _ _ n _ _ _ (refused x es k v f o) e = absurd (let z : ◌≡◌ {A = ℕ} 0 1 = cc in omega arith)
  walked_count _ _ n _ _ _ (visited u es a m b r o h k) e = let g = walked_count es (suc u.number) n m b r k e in omega arith

  -- a turn's children, one and then those after it
  module _ (grow : Node → List Event) (branches : List Branch) (u : Node) (x : Child) (cs : List Child) (count : ℕ) (a b : V) where
    pub turn_on : (n : ℕ) (c : V) (answer : Result ℕ Fault) → Walked visits bench (child_events grow u x count (target x.marks branches)) count a b (Ok n)
        → Walked visits bench (turn_events grow branches u n cs) n b c answer → Walked visits bench (turn_events grow branches u count (x ∷ cs)) count a c answer
    turn_on n c answer w k =
        let es : List Event = child_events grow u x count (target x.marks branches) in
        let e : n ≡ count + length (nodes_in es) = walked_count es count n a b (Ok n) w refl in
        walked_on es (turn_events grow branches u (count + length (nodes_in es)) cs) count n a b c (Ok n) answer w refl
        (subst (λ (i : ℕ). Walked visits bench (turn_events grow branches u i cs) n b c answer) e k)

    pub turn_refused : (f : Fault) → Walked visits bench (child_events grow u x count (target x.marks branches)) count a b (Err f)
        → Walked visits bench (turn_events grow branches u count (x ∷ cs)) count a b (Err f)
    turn_refused f w =
        let es : List Event = child_events grow u x count (target x.marks branches) in
        walked_no_more es (turn_events grow branches u (count + length (nodes_in es)) cs) count a b f (Err f) w refl

  pub turn_over : (grow : Node → List Event) (branches : List Branch) (u : Node) (cs : List Child) (count : ℕ) (v : V) → cs ≡ []
      → Walked visits bench (turn_events grow branches u count cs) count v v (Ok count)
  turn_over grow branches u cs count v e =
      subst (λ (xs : List Child). Walked visits bench (turn_events grow branches u count xs) count v v (Ok count)) (sym e) (over count v)

  pub no_branch : (grow : Node → List Event) (u : Node) (x : Child) (count : ℕ) (o : Option ℕ) (v : V) → o ≡ None
      → Walked visits bench (child_events grow u x count o) count v v (Err (tree_fault 20 u.line u.number))
  no_branch grow u x count o v e =
      subst (λ (t : Option ℕ). Walked visits bench (child_events grow u x count t) count v v (Err (tree_fault 20 u.line u.number))) (sym e)
      (refused (missing u.line u.number) [] count v (tree_fault 20 u.line u.number) refl)

  -- a node is made, or offends
  module _ (p : Protocol) (u : Node) (v : V) where
    offends : (k : ℕ) → 0 < k → (f : Fault) → offence bench (made u) ≡ Some f → Walked visits bench (subtree k p u) u.number v v (Err f)
    unfolding subtree
    offends zero h f e = absurd (omega arith)
    offends (suc k) h f e = refused (made u) (events_below (subtree k p) p u (action_at p u.line)) u.number v f e

    pub many_nodes : (k : ℕ) → 0 < k → 512 ≤ u.number → Walked visits bench (subtree k p u) u.number v v (Err (tree_fault 22 u.line 512))
    many_nodes k h n = offends k h (tree_fault 22 u.line 512) (rw (le-leb 512 u.number n))

    pub no_room : (k : ℕ) → 0 < k → u.number < 512 → bench_rows bench < u.need → Walked visits bench (subtree k p u) u.number v v (Err (tree_fault 21 u.line u.number))
    no_room k h n l = offends k h (tree_fault 21 u.line u.number) (rw (lt-leb 512 u.number n, lt-ltb (bench_rows bench) u.need l))

    pub node_made : (k : ℕ) → u.number < 512 → u.need ≤ bench_rows bench → (between after : V) (answer : Result ℕ Fault) → visits u v between
        → Walked visits bench (events_below (subtree k p) p u (action_at p u.line)) (suc u.number) between after answer
        → Walked visits bench (subtree (suc k) p u) u.number v after answer
    unfolding subtree
    node_made k n l between after answer h w =
        visited u (events_below (subtree k p) p u (action_at p u.line)) v between after answer (rw (lt-leb 512 u.number n, le-ltb (bench_rows bench) u.need l)) h w
