-- What holds of all nodes of a tree, and that a node is known by its line and trace.
use Rattle.std.proofs.Common.{◌≡◌, ℕ, zero, suc, ◌+◌, ◌≤◌, true, false, cond, not, List, [], ◌∷◌, ◌++◌, length, Some, None, filter, Option, sym, refl, ap, ◌∙◌, subst, arith}
use Rattle.std.specs.List.{AllByRecursion}
use Rattle.std.proofs.ByRecursion.{All-append, All-weaker, all_kept_by, kept_by_passes}
use Rattle.std.proofs.lemmas.List.{append_assoc}
use Rattle.std.proofs.lemmas.Bool.{false≢true, not-true}
use Rattle.script.specs.Model.{Branch, Action, permute, shuffle, turn, committed, opened, none, Onward, LawfulAction}
use Rattle.protocol.specs.Machine.{Protocol, LawfulProtocol, action_at, Mixing, permuting, shuffling, same, target, Trace}
use Rattle.protocol.specs.States.{Row, shows, is_shown, least_shown, before, Child, split, children}
use Rattle.protocol.specs.Tree.{Node, Event, nodes_in, mixed_node, child_node, child_events, turn_events, events_below, subtree}
use Rattle.protocol.proofs.Same.{same_refl}
use Rattle.protocol.proofs.TreeSum.{OnScript, lawful_at, onward, target_onward, nodes_append}

pub all_of : {X : Type 0} (P : X → Type 0) → ((x : X) → P x) → (xs : List X) → AllByRecursion P xs
all_of P h [] = tt
all_of P h (x ∷ xs) = (h x, all_of P h xs)

-- the mixing that an action is
abbrev pub Mixes : Protocol → ℕ → Action → Mixing → Type 0
Mixes p l (permute images next) m = m ≡ permuting images next
Mixes p l (shuffle total next) m = m ≡ shuffling p l total next
Mixes p l (turn places branches) m = ⊥
Mixes p l (committed left right) m = ⊥
Mixes p l (opened value) m = ⊥
Mixes p l none m = ⊥

-- P passes from a node to what a permute or a shuffle makes of it
abbrev pub ByMixing : Protocol → (Node → Type 0) → Type 0
ByMixing p P = (u : Node) (m : Mixing) → Mixes p u.line (action_at p u.line) m → P u → P (mixed_node p m u)

-- and to the children of a turn
abbrev pub ByTurn : Protocol → (Node → Type 0) → Type 0
ByTurn p P =
    (u : Node) (places : List ℕ) (branches : List Branch) → action_at p u.line ≡ turn places branches → P u
    → AllByRecursion (λ c. (number l : ℕ) → target c.marks branches ≡ Some l → P (child_node u c number l)) (children p.script.cards places u.rows)

module _ (p : Protocol) (P : Node → Type 0) (mixing : ByMixing p P) (turning : ByTurn p P) where
  all_child : (grow : Node → List Event) → ((u : Node) → P u → AllByRecursion P (nodes_in (grow u))) → (u : Node) (c : Child) (number : ℕ) (o : Option ℕ) → ((l : ℕ) → o ≡ Some l → P (child_node u c number l)) → AllByRecursion P (nodes_in (child_events grow u c number o))
  all_child grow ih u c number None h = tt
  all_child grow ih u c number (Some l) h = ih (child_node u c number l) (h l refl)

  all_turn : (grow : Node → List Event) → ((u : Node) → P u → AllByRecursion P (nodes_in (grow u))) → (branches : List Branch) (u : Node) (number : ℕ) (cs : List Child) → AllByRecursion (λ c. (number l : ℕ) → target c.marks branches ≡ Some l → P (child_node u c number l)) cs → AllByRecursion P (nodes_in (turn_events grow branches u number cs))
  all_turn grow ih branches u number [] h = tt
  all_turn grow ih branches u number (c ∷ cs) h =
      let es : List Event = child_events grow u c number (target c.marks branches) in
      let later : List Event = turn_events grow branches u (number + length (nodes_in es)) cs in
      subst (AllByRecursion P) (sym (nodes_append es later))
      (All-append P (nodes_in es) (nodes_in later)
      (all_child grow ih u c number (target c.marks branches) (h.0 number))
      (all_turn grow ih branches u (number + length (nodes_in es)) cs h.1))

  all_below : (grow : Node → List Event) → ((u : Node) → P u → AllByRecursion P (nodes_in (grow u))) → (u : Node) → P u → (action : Action) → action_at p u.line ≡ action → AllByRecursion P (nodes_in (events_below grow p u action))
  all_below grow ih u h (permute images next) e =
      ih (mixed_node p (permuting images next) u) (mixing u (permuting images next) (rw e refl) h)
  all_below grow ih u h (shuffle total next) e =
      ih (mixed_node p (shuffling p u.line total next) u) (mixing u (shuffling p u.line total next) (rw e refl) h)
  all_below grow ih u h (turn places branches) e =
      all_turn grow ih branches u (suc u.number) (children p.script.cards places u.rows) (turning u places branches e h)
  all_below grow ih u h (committed left right) e = tt
  all_below grow ih u h (opened value) e = tt
  all_below grow ih u h none e = tt

  -- what passes from node to node holds in the whole subtree
  pub all_nodes : (k : ℕ) (u : Node) → P u → AllByRecursion P (nodes_in (subtree k p u))
  unfolding subtree
  all_nodes zero u h = tt
  all_nodes (suc k) u h = (h, all_below (subtree k p) (all_nodes k) u h (action_at p u.line) refl)

-- a node below another, or that node itself
pub record Descends (p : Protocol) (l : ℕ) (trace : Trace) (v : Node) : Type 0 where
  pub from : l ≤ v.line
  pub on : OnScript p v.line
  pub more : Trace
  pub extends : v.trace ≡ trace ++ more

pub mixing_later : (p : Protocol) → LawfulProtocol p → (l : ℕ) → OnScript p l → (action : Action) → LawfulAction p.script.cards p.script.lines l action → (m : Mixing) → Mixes p l action m → Onward p.script.lines l m.next
mixing_later p ok l on (permute images next) law m e = subst (λ k. Onward p.script.lines l k.next) (sym e) law.1
mixing_later p ok l on (shuffle total next) law m e = subst (λ k. Onward p.script.lines l k.next) (sym e) law.1.1
mixing_later p ok l on (turn places branches) law m e = absurd e
mixing_later p ok l on (committed left right) law m e = absurd e
mixing_later p ok l on (opened value) law m e = absurd e
mixing_later p ok l on none law m e = absurd e

pub turn_later : (p : Protocol) → LawfulProtocol p → (l : ℕ) → OnScript p l → (places : List ℕ) (branches : List Branch) → action_at p l ≡ turn places branches → (marks : List ℕ) (t : ℕ) → target marks branches ≡ Some t → Onward p.script.lines l t
turn_later p ok l on places branches e marks t h =
    let law : LawfulAction p.script.cards p.script.lines l (turn places branches) =
    subst (LawfulAction p.script.cards p.script.lines l) e (lawful_at p ok l on) in
    target_onward p.script.lines l (length places) marks branches t law.1.1 h

pub descend : (p : Protocol) → LawfulProtocol p → (k : ℕ) (u : Node) (l : ℕ) (trace : Trace) → Descends p l trace u → AllByRecursion (Descends p l trace) (nodes_in (subtree k p u))
descend p ok k u l trace h = all_nodes p (Descends p l trace) mixing turning k u h
  where
    mixing : ByMixing p (Descends p l trace)
    mixing u m e d =
        let w = mixing_later p ok u.line d.on (action_at p u.line) (lawful_at p ok u.line d.on) m e in
        record {
          from = (let a = d.from in let b = w.later in omega arith);
          on = onward p u.line m.next d.on w;
          more = d.more;
          extends = d.extends;
        }

    turning : ByTurn p (Descends p l trace)
    turning u places branches e d =
        all_of (λ c. (number t : ℕ) → target c.marks branches ≡ Some t → Descends p l trace (child_node u c number t))
        (λ c number t f.
        let w = turn_later p ok u.line d.on places branches e c.marks t f in
        record {
          from = (let a = d.from in let b = w.later in omega arith);
          on = onward p u.line t d.on w;
          more = d.more ++ c.marks ∷ [];
          extends = ap (λ x. x ++ c.marks ∷ []) d.extends ∙ append_assoc trace d.more (c.marks ∷ []);
        })
        (children p.script.cards places u.rows)

-- The children of a turn have different marks.
abbrev pub Apart : List Child → Type 0
Apart [] = Unit
Apart (c ∷ cs) = AllByRecursion (λ d. d.marks ≡ c.marks → ⊥) cs × Apart cs

least_keeps : (n : ℕ) (places marks : List ℕ) (Q : List ℕ → Type 0) → Q marks → (rs : List Row) → AllByRecursion (λ r. Q (shows n places r)) rs → Q (least_shown n places marks rs)
least_keeps n places marks Q h [] all = h
least_keeps n places marks Q h (r ∷ rs) all =
    least_keeps n places (cond (before (shows n places r) marks) (shows n places r) marks) Q
    (elim (before (shows n places r) marks) as (λ t. Q (cond t (shows n places r) marks)) [ true ↦ all.0 | false ↦ h ])
    rs all.1

-- what all rows show, the marks of all children are
pub marks_keep : (n : ℕ) (places : List ℕ) (Q : List ℕ → Type 0) (k : ℕ) (rs : List Row) → AllByRecursion (λ r. Q (shows n places r)) rs → AllByRecursion (λ c. Q c.marks) (split k n places rs)
marks_keep n places Q zero rs all = tt
marks_keep n places Q (suc k) [] all = tt
marks_keep n places Q (suc k) (r ∷ rs) all = (
  least_keeps n places (shows n places r) Q all.0 rs all.1,
  marks_keep n places Q k
      (filter (λ x. not (is_shown n places (least_shown n places (shows n places r) rs) x)) (r ∷ rs))
      (all_kept_by (λ x. not (is_shown n places (least_shown n places (shows n places r) rs) x)) (λ x. Q (shows n places x)) (r ∷ rs) all),
)

pub children_apart : (n : ℕ) (places : List ℕ) (k : ℕ) (rs : List Row) → Apart (split k n places rs)
children_apart n places zero rs = tt
children_apart n places (suc k) [] = tt
children_apart n places (suc k) (r ∷ rs) =
    let least : List ℕ = least_shown n places (shows n places r) rs in
    let left : List Row = filter (λ x. not (is_shown n places least x)) (r ∷ rs) in (
      marks_keep n places (λ ms. ms ≡ least → ⊥) k left
          (All-weaker (λ x. not (is_shown n places least x) ≡ true) (λ x. shows n places x ≡ least → ⊥)
          (λ x h e.
          let f : same (shows n places x) least ≡ true = rw e (same_refl least) in
          false≢true (sym (not-true (same (shows n places x) least) h) ∙ f))
          left (kept_by_passes (λ x. not (is_shown n places least x)) (r ∷ rs))),
      children_apart n places k left,
    )
