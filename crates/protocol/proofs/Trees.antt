-- A subtree that is built: taken apart by the action at its line.
use Rattle.std.proofs.Common.{◌≡◌, ℕ, zero, suc, ◌+◌, ◌*◌, ◌/◌, ◌<◌, ◌≤◌, List, [], ◌∷◌, ◌++◌, length, Some, None, sum_by, Option, sym, refl, ap, ◌∙◌, subst, arith}
use native.Mathlib.Nat.{mul-div_cancel_left}
use Rattle.std.specs.List.{AllByRecursion}
use Rattle.std.proofs.ByRecursion.{All-weaker}
use Rattle.script.specs.Model.{Branch, Action, permute, shuffle, turn, committed, opened, none, Onward, LawfulAction}
use Rattle.protocol.specs.Machine.{Protocol, LawfulProtocol, action_at, Mixing, permuting, shuffling, target, is_result}
use Rattle.protocol.specs.States.{Row, Child, children, mixed, total_of}
use Rattle.protocol.specs.Tree.{Node, Event, nodes_in, mixed_node, child_node, child_events, turn_events, events_below, subtree, events, root}
use Rattle.protocol.proofs.Sums.{sum_by_all, sum_below_const}
use Rattle.protocol.proofs.Weighed.{weighed, weighed_one, weighed_mixed, weighed_children, Inward}
use Rattle.protocol.proofs.TreeSum.{OnScript, lawful_at, onward, nodes_append, inward_permuting, inward_shuffling}
use Rattle.protocol.proofs.Nodes.{turn_later}
use Rattle.protocol.proofs.Reached.{root_on}
use Rattle.protocol.proofs.Scan.{IsMade}
use Rattle.protocol.proofs.Divided.{OneTotal}

pub all_parts : {X : Type 0} (P : X → Type 0) (xs ys : List X) → AllByRecursion P (xs ++ ys) → AllByRecursion P xs × AllByRecursion P ys
all_parts P [] ys h = (tt, h)
all_parts P (x ∷ xs) ys h = let r = all_parts P xs ys h.1 in ((h.0, r.0), r.1)

-- P holds at a node and at all below it, down to results; k bounds the depth
pub record Tree (p : Protocol) (P : Node → Type 0) (k : ℕ) (u : Node) : Type 0 where
  pub on : OnScript p u.line
  pub deep : p.script.lines ≤ u.line + k
  pub made_all : AllByRecursion IsMade (subtree k p u)
  pub all : AllByRecursion P (nodes_in (subtree k p u))

pub tree_fuel : (p : Protocol) (P : Node → Type 0) (u : Node) → Tree p P 0 u → ⊥
tree_fuel p P u t = let a = t.deep in let b = t.on.there in omega arith

pub tree_top : (p : Protocol) (P : Node → Type 0) (k : ℕ) (u : Node) → Tree p P k u → P u
unfolding subtree
tree_top p P zero u t = absurd (tree_fuel p P u t)
tree_top p P (suc k) u t = t.all.0

pub tree_weaker : (p : Protocol) (P Q : Node → Type 0) → ((v : Node) → P v → Q v) → (k : ℕ) (u : Node) → Tree p P k u → Tree p Q k u
tree_weaker p P Q f k u t =
    record {
      on = t.on;
      deep = t.deep;
      made_all = t.made_all;
      all = All-weaker P Q f (nodes_in (subtree k p u)) t.all;
    }

module _ (p : Protocol) (ok : LawfulProtocol p) (P : Node → Type 0) (k : ℕ) (u : Node) (t : Tree p P (suc k) u) where
  made_below : (action : Action) → action_at p u.line ≡ action → AllByRecursion IsMade (events_below (subtree k p) p u action)
  unfolding subtree
  made_below action e = subst (λ a. AllByRecursion IsMade (events_below (subtree k p) p u a)) e t.made_all.1

  all_below : (action : Action) → action_at p u.line ≡ action → AllByRecursion P (nodes_in (events_below (subtree k p) p u action))
  unfolding subtree
  all_below action e = subst (λ a. AllByRecursion P (nodes_in (events_below (subtree k p) p u a))) e t.all.1

  pub lawful_action : (action : Action) → action_at p u.line ≡ action → LawfulAction p.script.cards p.script.lines u.line action
  lawful_action action e = subst (LawfulAction p.script.cards p.script.lines u.line) e (lawful_at p ok u.line t.on)

  deeper : (l : ℕ) → Onward p.script.lines u.line l → p.script.lines ≤ l + k
  deeper l w = let a = t.deep in let b = w.later in omega arith

  pub tree_permute : (images : List ℕ) (next : ℕ) → action_at p u.line ≡ permute images next → Tree p P k (mixed_node p (permuting images next) u)
  tree_permute images next e =
      let w = (lawful_action (permute images next) e).1 in
      record {
        on = onward p u.line next t.on w;
        deep = deeper next w;
        made_all = made_below (permute images next) e;
        all = all_below (permute images next) e;
      }

  pub tree_shuffle : (total next : ℕ) → action_at p u.line ≡ shuffle total next → Tree p P k (mixed_node p (shuffling p u.line total next) u)
  tree_shuffle total next e =
      let w = (lawful_action (shuffle total next) e).1.1 in
      record {
        on = onward p u.line next t.on w;
        deep = deeper next w;
        made_all = made_below (shuffle total next) e;
        all = all_below (shuffle total next) e;
      }

  -- a child of a turn has a branch, and its subtree is built
  abbrev pub Grown : List Branch → Child → Type 0
  Grown branches c = (number : ℕ) × (l : ℕ) × (target c.marks branches ≡ Some l) × Tree p P k (child_node u c number l)

  child_grown : (places : List ℕ) (branches : List Branch) → action_at p u.line ≡ turn places branches → (c : Child) (number : ℕ) (o : Option ℕ) → target c.marks branches ≡ o → AllByRecursion IsMade (child_events (subtree k p) u c number o) → AllByRecursion P (nodes_in (child_events (subtree k p) u c number o)) → Grown branches c
  child_grown places branches e c number None f m a = absurd m.0
  child_grown places branches e c number (Some l) f m a =
      let w = turn_later p ok u.line t.on places branches e c.marks l f in
      (number, l, f, record { on = onward p u.line l t.on w; deep = deeper l w; made_all = m; all = a })

  grown : (places : List ℕ) (branches : List Branch) → action_at p u.line ≡ turn places branches → (number : ℕ) (cs : List Child) → AllByRecursion IsMade (turn_events (subtree k p) branches u number cs) → AllByRecursion P (nodes_in (turn_events (subtree k p) branches u number cs)) → AllByRecursion (Grown branches) cs
  grown places branches e number [] m a = tt
  grown places branches e number (c ∷ cs) m a =
      let es : List Event = child_events (subtree k p) u c number (target c.marks branches) in
      let later : List Event = turn_events (subtree k p) branches u (number + length (nodes_in es)) cs in
      let ms = all_parts IsMade es later m in
      let ps = all_parts P (nodes_in es) (nodes_in later) (subst (AllByRecursion P) (nodes_append es later) a) in (
        child_grown places branches e c number (target c.marks branches) refl ms.0 ps.0,
        grown places branches e (number + length (nodes_in es)) cs ms.1 ps.1,
      )

  pub tree_turn : (places : List ℕ) (branches : List Branch) → action_at p u.line ≡ turn places branches → AllByRecursion (Grown branches) (children p.script.cards places u.rows)
  tree_turn places branches e =
      grown places branches e (suc u.number) (children p.script.cards places u.rows)
      (made_below (turn places branches) e) (all_below (turn places branches) e)

-- the whole tree
pub whole_tree : (p : Protocol) → LawfulProtocol p → (P : Node → Type 0) → AllByRecursion IsMade (events p) → AllByRecursion P (nodes_in (events p)) → Tree p P p.script.lines (root p)
unfolding events
whole_tree p ok P m a = record { on = root_on p ok; deep = omega arith; made_all = m; all = a }

-- One total at each result node is one total at each node.

pub total_mixed : (n b : ℕ) (m : Mixing) → b < 8 → n ≤ 12 → Inward n m → (rows : List Row) → total_of b (mixed n m rows) ≡ m.total * total_of b rows
total_mixed n b m few cards ins rows =
    sym (weighed_one n b (mixed n m rows)) ∙ weighed_mixed n b (λ a. 1) m few cards ins rows
    ∙ sum_below_const m.total (weighed n b (λ a. 1) rows) ∙ ap (λ x. m.total * x) (weighed_one n b rows)

pub total_children : (n b : ℕ) (places : List ℕ) (rows : List Row) → total_of b rows ≡ sum_by (λ c. total_of b c.rows) (children n places rows)
total_children n b places rows =
    sym (weighed_one n b rows) ∙ weighed_children n b places (λ marks a. 1) rows
    ∙ sum_by_all (λ c. weighed n b (λ a. 1) c.rows) (λ c. total_of b c.rows) (children n places rows)
    (each (children n places rows))
  where
    each : (cs : List Child) → AllByRecursion (λ c. weighed n b (λ a. 1) c.rows ≡ total_of b c.rows) cs
    each [] = tt
    each (c ∷ cs) = (weighed_one n b c.rows, each cs)

cancel : (w x y : ℕ) → 1 ≤ w → w * x ≡ w * y → x ≡ y
cancel w x y h e = sym (mul-div_cancel_left x h) ∙ ap (λ v. v / w) e ∙ mul-div_cancel_left y h

module _ (p : Protocol) (ok : LawfulProtocol p) (b d : ℕ) (few : b < 8) (few' : d < 8) where
  abbrev pub Even : Node → Type 0
  Even u = total_of b u.rows ≡ total_of d u.rows

  even_mixed : (m : Mixing) (u : Node) → 1 ≤ m.total → Inward p.script.cards m → Even (mixed_node p m u) → Even u
  even_mixed m u some ins e =
      cancel m.total (total_of b u.rows) (total_of d u.rows) some
      (sym (total_mixed p.script.cards b m few ok.script.few_cards ins u.rows) ∙ e
      ∙ total_mixed p.script.cards d m few' ok.script.few_cards ins u.rows)

  pub even_nodes : (k : ℕ) (u : Node) → Tree p (OneTotal p b d) k u → Even u
  even_nodes zero u t = absurd (tree_fuel p (OneTotal p b d) u t)
  even_nodes (suc k) u t = go (action_at p u.line) refl (even_nodes k)
    where
      go : (action : Action) → action_at p u.line ≡ action → ((v : Node) → Tree p (OneTotal p b d) k v → Even v) → Even u
      go (permute images next) e ih =
          let law = lawful_action p ok (OneTotal p b d) k u t (permute images next) e in
          even_mixed (permuting images next) u (omega arith) (inward_permuting p u.line next images law)
          (ih (mixed_node p (permuting images next) u) (tree_permute p ok (OneTotal p b d) k u t images next e))
      go (shuffle total next) e ih =
          let law = lawful_action p ok (OneTotal p b d) k u t (shuffle total next) e in
          even_mixed (shuffling p u.line total next) u law.0 (inward_shuffling p ok u.line total next law)
          (ih (mixed_node p (shuffling p u.line total next) u) (tree_shuffle p ok (OneTotal p b d) k u t total next e))
      go (turn places branches) e ih =
          total_children p.script.cards b places u.rows
          ∙ sum_by_all (λ c. total_of b c.rows) (λ c. total_of d c.rows) (children p.script.cards places u.rows)
          (All-weaker (Grown p ok (OneTotal p b d) k u t branches) (λ c. total_of b c.rows ≡ total_of d c.rows)
          (λ c g. ih (child_node u c g.0 g.1) g.3)
          (children p.script.cards places u.rows) (tree_turn p ok (OneTotal p b d) k u t places branches e))
          ∙ sym (total_children p.script.cards d places u.rows)
      go (committed left right) e ih = tree_top p (OneTotal p b d) (suc k) u t (ap is_result e)
      go (opened value) e ih = tree_top p (OneTotal p b d) (suc k) u t (ap is_result e)
      go none e ih = absurd (lawful_action p ok (OneTotal p b d) k u t none e)
