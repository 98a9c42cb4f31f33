-- What a walk comes to at a node, from what it comes to below it.
use Rattle.std.proofs.Common.{◌≡◌, ℕ, zero, suc, ◌+◌, ◌<◌, ◌≤◌, ◌⊎◌, inl, inr, List, [], ◌∷◌, ◌++◌, length, Some, Ok, Err, Option, Result, sym, ap, ◌∙◌, subst, add-one, arith}
use Rattle.std.proofs.lemmas.List.{flat_map_more}
use Rattle.script.specs.Model.{Action, Branch}
use Rattle.protocol.specs.Machine.{Protocol, Mixing, Trace, action_at, target}
use Rattle.protocol.specs.States.{Row, Child, mixed}
use Rattle.protocol.specs.Table.{bytes_of}
use Rattle.protocol.specs.Tree.{Node, Event, mixed_node, child_events, events_below, subtree, bench_rows}
use Rattle.sheet.specs.declared.action.Action as code
use Rattle.sheet.specs.declared.action.Action.TheVariants.{Committed, Open, Nothing}
use Rattle.sheet.specs.Actions.{shows}
use Rattle.tree.specs.declared.fault.TreeFault.{TreeFault}
use Rattle.tree.specs.declared.fault.TreeFault.TheVariants.{Bench, Nodes}
use Rattle.tree.specs.Walks.{node_at, Walked, over, faulted, Grown, Made, Below}
use Rattle.tree.proofs.Walking.{many_nodes, no_room, node_made}

module _ {V : Type 0} (visits : Protocol → Node → V → V → Type 0) (p : Protocol) (line : ℕ) (marks : List ℕ) (count : ℕ) (before : V) where
  -- a node that would be one too many, or has no room
  pub made_many : (rows : List Row) (room : ℕ) → line < p.script.lines → 512 ≤ count → Made visits p line rows room marks count before before (Err (Nodes line))
  made_many rows room l h bench depth need trace d e b =
      many_nodes (visits p) bench p (node_at count line (need + length rows) rows trace) before depth (omega arith) h

  pub made_none : (rows : List Row) (room : ℕ) → line < p.script.lines → count < 512 → room < length rows → Made visits p line rows room marks count before before (Err (Bench line count))
  made_none rows room l n h bench depth need trace d e b =
      let r : bench_rows bench < need + length rows = subst (λ (x : ℕ). x < need + length rows) e (omega arith) in
      no_room (visits p) bench p (node_at count line (need + length rows) rows trace) before depth (omega arith) n r

  -- a node whose rows have room
  pub made_grown : (rows : List Row) (m room rest : ℕ) (after : V) (answer : Result ℕ TreeFault) → m ≡ length rows → rest + m ≡ room → Grown visits p line rows rest marks count before after answer → Made visits p line rows room marks count before after answer
  made_grown rows m room rest after answer e f g bench depth need trace d h b =
      g bench depth need trace d ((let z : (need + length rows) + rest ≡ need + room = omega arith in z) ∙ h) b

  -- a node and what is below it
  pub grown_below : (rows : List Row) (rest : ℕ) (between after : V) (answer : Result ℕ TreeFault) → line < p.script.lines → count < 512
      → ((need : ℕ) (trace : Trace) → bytes_of trace ≡ marks → visits p (node_at count line need rows trace) before between)
      → Below visits p line rows rest marks (count + 1) between after answer → Grown visits p line rows rest marks count before after answer
  grown_below rows rest between after answer l n v w bench zero need trace d e b = absurd (omega arith)
  grown_below rows rest between after answer l n v w bench (suc k) need trace d e b =
      let u : Node = node_at count line (need + length rows) rows trace in
      let r : need + length rows ≤ bench_rows bench = subst (λ (x : ℕ). need + length rows ≤ x) e (omega arith) in
      node_made (visits p) bench p u before k n r between after (faulted answer) (v (need + length rows) trace b)
      (subst (λ (i : ℕ). Walked (visits p) bench (events_below (subtree k p) p u (action_at p line)) i between after (faulted answer)) (add-one count)
      (w bench k (need + length rows) count trace (omega arith) e b (add-one count)))

module _ {V : Type 0} (visits : Protocol → Node → V → V → Type 0) (p : Protocol) (line : ℕ) (rows : List Row) (rest : ℕ) (marks : List ℕ) (count : ℕ) (before : V) where
  -- nothing is below a result, nor below a line that has no action
  pub below_result : (a : code.Action) → shows a ≡ action_at p line
      → ((x : ℕ) × (y : ℕ) × (a ≡ Committed x y)) ⊎ (((x : ℕ) × (a ≡ Open x)) ⊎ (a ≡ Nothing)) → Below visits p line rows rest marks count before before (Ok count)
  below_result a e k bench depth need number trace d f b n =
      let grow : Node → List Event = subtree depth p in
      let u : Node = node_at number line need rows trace in
      let none : events_below grow p u (shows a) ≡ [] =
      (let along = λ (c : code.Action). λ (h : a ≡ c). ap (λ (x : code.Action). events_below grow p u (shows x)) h in
      elim k [ inl h ↦ along (Committed h.0 h.1) h.2 | inr h ↦ elim h [ inl o ↦ along (Open o.0) o.1 | inr o ↦ along Nothing o ] ]) in
      subst (λ (es : List Event). Walked (visits p) bench es count before before (Ok count)) (sym none ∙ ap (events_below grow p u) e) (over count before)

  -- a permute or a shuffle has one node below it
  pub below_mixed : (a : Action) (m : Mixing) (after : V) (answer : Result ℕ TreeFault) → a ≡ action_at p line → line < m.next
      → ((grow : Node → List Event) (number need : ℕ) (trace : Trace) → events_below grow p (node_at number line need rows trace) a ≡ grow (mixed_node p m (node_at number line need rows trace)))
      → Made visits p m.next (mixed p.script.cards m rows) rest marks count before after answer → Below visits p line rows rest marks count before after answer
  below_mixed a m after answer e l h made bench depth need number trace d f b n =
      let state : List Row = mixed p.script.cards m rows in
      subst (λ (es : List Event). Walked (visits p) bench es count before after (faulted answer))
      (ap (λ (k : ℕ). subtree depth p (node_at k m.next (need + length state) state trace)) n
      ∙ sym (h (subtree depth p) number need trace)
      ∙ ap (events_below (subtree depth p) p (node_at number line need rows trace)) e)
      (made bench depth need trace (omega arith) f b)

-- one child of a turn
module _ {V : Type 0} (visits : Protocol → Node → V → V → Type 0) (p : Protocol) (node line : ℕ) (rows : List Row) (branches : List Branch) (child : Child) (next : ℕ) (e : target child.marks branches ≡ Some next) (l : line < next) where
  pub child_made : (rest : ℕ) (marks : List ℕ) (count : ℕ) (before after : V) (answer : Result ℕ TreeFault) → Made visits p next child.rows rest (marks ++ child.marks) count before after answer
      → (bench depth need : ℕ) (trace : Trace) → p.script.lines ≤ suc line + depth → need + rest ≡ bench_rows bench → bytes_of trace ≡ marks
      → Walked (visits p) bench (child_events (subtree depth p) (node_at node line need rows trace) child count (target child.marks branches)) count before after (faulted answer)
  child_made rest marks count before after answer made bench depth need trace d f b =
      subst (λ (o : Option ℕ). Walked (visits p) bench (child_events (subtree depth p) (node_at node line need rows trace) child count o) count before after (faulted answer)) (sym e)
      (made bench depth need (trace ++ child.marks ∷ []) (omega arith) f
      (sym (flat_map_more (λ (m : List ℕ). m) [] trace child.marks) ∙ ap (λ (xs : List ℕ). xs ++ child.marks) b))
