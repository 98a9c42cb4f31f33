-- A sum over the nodes of a tree, of which only those like one node count, is that node's.
use Rattle.std.proofs.Common.{◌≡◌, ℕ, zero, suc, ◌+◌, ◌<◌, false, List, [], ◌∷◌, ◌++◌, length, Some, None, sum_by, Option, sym, refl, ap, ◌∙◌, subst, add-zero, zero-add}
use Rattle.std.specs.List.{AllByRecursion}
use Rattle.std.proofs.ByRecursion.{All-append, All-weaker}
use Rattle.std.proofs.lemmas.List.{append-nil, append_assoc, append_cancel_left}
use Rattle.std.proofs.lemmas.List.Sums.{sum_by-cons, sum_by-append}
use Rattle.script.specs.Model.{Branch, Action, permute, shuffle, turn, committed, opened, none, Onward, LawfulBranch, LawfulAction}
use Rattle.protocol.specs.Machine.{Protocol, LawfulProtocol, action_at, permuting, shuffling, target, Trace, is_result}
use Rattle.protocol.specs.States.{Child, children}
use Rattle.protocol.specs.Tree.{Node, Event, nodes_in, mixed_node, child_node, child_events, turn_events, events_below, subtree}
use Rattle.protocol.proofs.Sums.{sum_by_zero}
use Rattle.protocol.proofs.TreeSum.{OnScript, lawful_at, onward, target_onward, nodes_append}
use Rattle.protocol.proofs.Nodes.{all_of, Descends, descend, Apart, children_apart}

-- A likeness of nodes that have one trace. A node where a run goes on is not like any node at a later line; nor is such
-- a node like it, if it is of those wanted.
pub record Likeness (p : Protocol) (wanted : Node → Type 0) (like : Node → Node → Type 0) : Type 0 where
  pub one_trace : (v u : Node) → like v u → v.trace ≡ u.trace
  pub earlier : (u v : Node) → is_result (action_at p u.line) ≡ false → u.line < v.line → like u v → ⊥
  pub later : (u v : Node) → wanted u → is_result (action_at p u.line) ≡ false → u.line < v.line → like v u → ⊥

-- f is 0 at the nodes that are not like u
abbrev pub Foreign : (Node → Node → Type 0) → Node → (Node → ℕ) → Type 0
Foreign like u f = (v : Node) → (like v u → ⊥) → f v ≡ 0

abbrev pub Sole : (Node → Type 0) → (Node → Node → Type 0) → List Node → Node → Type 0
Sole wanted like ns u = wanted u → (f : Node → ℕ) → Foreign like u f → sum_by f ns ≡ f u

module _ (p : Protocol) (ok : LawfulProtocol p) (wanted : Node → Type 0) (like : Node → Node → Type 0) (law : Likeness p wanted like) where
  -- a node above others, at a line where the run goes on
  on_top : (u : Node) (ns : List Node) → is_result (action_at p u.line) ≡ false → AllByRecursion (λ v. u.line < v.line) ns → AllByRecursion (Sole wanted like ns) ns → AllByRecursion (Sole wanted like (u ∷ ns)) (u ∷ ns)
  on_top u ns goes below sole = (
    (λ w f foreign.
        sum_by-cons f u ns
        ∙ ap (λ v. f u + v)
        (sum_by_zero f ns
        (All-weaker (λ v. u.line < v.line) (λ v. f v ≡ 0) (λ v h. foreign v (law.later u v w goes h)) ns below))
        ∙ add-zero (f u)),
    under ns below sole,
  )
    where
      under : (vs : List Node) → AllByRecursion (λ v. u.line < v.line) vs → AllByRecursion (Sole wanted like ns) vs → AllByRecursion (Sole wanted like (u ∷ ns)) vs
      under [] b s = tt
      under (v ∷ vs) b s = (
        (λ w f foreign.
            sum_by-cons f u ns ∙ ap (λ x. x + sum_by f ns) (foreign u (law.earlier u v goes b.0))
            ∙ zero-add (sum_by f ns) ∙ s.0 w f foreign),
        under vs b.1 s.1,
      )

  -- nodes under children with different marks
  abbrev Shows : Trace → (List ℕ → Type 0) → Node → Type 0
  Shows trace Q v = (marks : List ℕ) × (more : Trace) × (v.trace ≡ trace ++ (marks ∷ more)) × Q marks

  differ : (trace : Trace) (m : List ℕ) (u v : Node) → Shows trace (λ x. x ≡ m) u → Shows trace (λ x. x ≡ m → ⊥) v → u.trace ≡ v.trace → ⊥
  differ trace m u v s t e =
      let a : trace ++ (s.0 ∷ s.1) ≡ trace ++ (t.0 ∷ t.1) = sym s.2 ∙ e ∙ t.2 in
      let b : ◌≡◌ {A = Trace} (s.0 ∷ s.1) (t.0 ∷ t.1) = append_cancel_left trace (s.0 ∷ s.1) (t.0 ∷ t.1) a in
      let c : s.0 ≡ t.0 = cc in
      t.3 (sym c ∙ s.3)

  module _ (trace : Trace) (m : List ℕ) (ns ms : List Node) (first : AllByRecursion (Shows trace (λ x. x ≡ m)) ns) (others : AllByRecursion (Shows trace (λ x. x ≡ m → ⊥)) ms) where
    beside : AllByRecursion (Sole wanted like ns) ns → AllByRecursion (Sole wanted like ms) ms → AllByRecursion (Sole wanted like (ns ++ ms)) (ns ++ ms)
    beside sole sole' =
        All-append (Sole wanted like (ns ++ ms)) ns ms (left ns first sole) (right ms others sole')
      where
        left : (us : List Node) → AllByRecursion (Shows trace (λ x. x ≡ m)) us → AllByRecursion (Sole wanted like ns) us → AllByRecursion (Sole wanted like (ns ++ ms)) us
        left [] a s = tt
        left (u ∷ us) a s = (
          (λ w f foreign.
              sum_by-append f ns ms
              ∙ ap (λ x. sum_by f ns + x)
              (sum_by_zero f ms
              (All-weaker (Shows trace (λ x. x ≡ m → ⊥)) (λ v. f v ≡ 0)
              (λ v h. foreign v (λ k. differ trace m u v a.0 h (sym (law.one_trace v u k)))) ms others))
              ∙ add-zero (sum_by f ns) ∙ s.0 w f foreign),
          left us a.1 s.1,
        )

        right : (us : List Node) → AllByRecursion (Shows trace (λ x. x ≡ m → ⊥)) us → AllByRecursion (Sole wanted like ms) us → AllByRecursion (Sole wanted like (ns ++ ms)) us
        right [] a s = tt
        right (u ∷ us) a s = (
          (λ w f foreign.
              sum_by-append f ns ms
              ∙ ap (λ x. x + sum_by f ms)
              (sum_by_zero f ns
              (All-weaker (Shows trace (λ x. x ≡ m)) (λ v. f v ≡ 0)
              (λ v h. foreign v (λ k. differ trace m v u h a.0 (law.one_trace v u k))) ns first))
              ∙ zero-add (sum_by f ms) ∙ s.0 w f foreign),
          right us a.1 s.1,
        )

  -- the nodes under the children of a turn
  module _ (k : ℕ) (u : Node) (on : OnScript p u.line) (branches : List Branch) (t : ℕ) (lawful : AllByRecursion (LawfulBranch p.script.lines u.line t) branches) where
    child_descends : (c : Child) (number l : ℕ) → target c.marks branches ≡ Some l → AllByRecursion (Descends p (suc u.line) (u.trace ++ c.marks ∷ [])) (nodes_in (subtree k p (child_node u c number l)))
    child_descends c number l e =
        let w = target_onward p.script.lines u.line t c.marks branches l lawful e in
        descend p ok k (child_node u c number l) (suc u.line) (u.trace ++ c.marks ∷ [])
        (record {
          from = w.later;
          on = onward p u.line l on w;
          more = [];
          extends = sym (append-nil (u.trace ++ c.marks ∷ []));
        })

    child_shows : (Q : List ℕ → Type 0) (c : Child) → Q c.marks → (number : ℕ) (o : Option ℕ) → target c.marks branches ≡ o → AllByRecursion (Shows u.trace Q) (nodes_in (child_events (subtree k p) u c number o))
    child_shows Q c q number None e = tt
    child_shows Q c q number (Some l) e =
        All-weaker (Descends p (suc u.line) (u.trace ++ c.marks ∷ [])) (Shows u.trace Q)
        (λ v d. (c.marks, d.more, d.extends ∙ append_assoc u.trace (c.marks ∷ []) d.more, q))
        (nodes_in (subtree k p (child_node u c number l))) (child_descends c number l e)

    child_later : (c : Child) (number : ℕ) (o : Option ℕ) → target c.marks branches ≡ o → AllByRecursion (λ v. u.line < v.line) (nodes_in (child_events (subtree k p) u c number o))
    child_later c number None e = tt
    child_later c number (Some l) e =
        All-weaker (Descends p (suc u.line) (u.trace ++ c.marks ∷ [])) (λ v. u.line < v.line) (λ v d. d.from)
        (nodes_in (subtree k p (child_node u c number l))) (child_descends c number l e)

    -- what holds of the nodes under each child holds of those under all
    all_children : (P : Node → Type 0) (C : Child → Type 0) → ((c : Child) → C c → (number : ℕ) → AllByRecursion P (nodes_in (child_events (subtree k p) u c number (target c.marks branches)))) → (number : ℕ) (cs : List Child) → AllByRecursion C cs → AllByRecursion P (nodes_in (turn_events (subtree k p) branches u number cs))
    all_children P C each number [] h = tt
    all_children P C each number (c ∷ cs) h =
        let es : List Event = child_events (subtree k p) u c number (target c.marks branches) in
        let later : List Event = turn_events (subtree k p) branches u (number + length (nodes_in es)) cs in
        subst (AllByRecursion P) (sym (nodes_append es later))
        (All-append P (nodes_in es) (nodes_in later) (each c h.0 number)
        (all_children P C each (number + length (nodes_in es)) cs h.1))

    turn_sole : ((v : Node) → OnScript p v.line → AllByRecursion (Sole wanted like (nodes_in (subtree k p v))) (nodes_in (subtree k p v))) → (number : ℕ) (cs : List Child) → Apart cs → AllByRecursion (Sole wanted like (nodes_in (turn_events (subtree k p) branches u number cs))) (nodes_in (turn_events (subtree k p) branches u number cs))
    turn_sole ih number [] apart = tt
    turn_sole ih number (c ∷ cs) apart =
        let es : List Event = child_events (subtree k p) u c number (target c.marks branches) in
        let later : List Event = turn_events (subtree k p) branches u (number + length (nodes_in es)) cs in
        let P : List Node → Type 0 = λ ns. AllByRecursion (Sole wanted like ns) ns in
        subst P (sym (nodes_append es later))
        (beside u.trace c.marks (nodes_in es) (nodes_in later)
        (child_shows (λ x. x ≡ c.marks) c refl number (target c.marks branches) refl)
        (all_children (Shows u.trace (λ x. x ≡ c.marks → ⊥)) (λ d. d.marks ≡ c.marks → ⊥)
        (λ d h number. child_shows (λ x. x ≡ c.marks → ⊥) d h number (target d.marks branches) refl)
        (number + length (nodes_in es)) cs apart.0)
        (of_child (target c.marks branches) refl)
        (turn_sole ih (number + length (nodes_in es)) cs apart.1))
      where
        of_child : (o : Option ℕ) → target c.marks branches ≡ o → AllByRecursion (Sole wanted like (nodes_in (child_events (subtree k p) u c number o))) (nodes_in (child_events (subtree k p) u c number o))
        of_child None e = tt
        of_child (Some l) e =
            ih (child_node u c number l)
            (onward p u.line l on (target_onward p.script.lines u.line t c.marks branches l lawful e))

    turn_later : (number : ℕ) (cs : List Child) → AllByRecursion (λ v. u.line < v.line) (nodes_in (turn_events (subtree k p) branches u number cs))
    turn_later number cs =
        all_children (λ v. u.line < v.line) (λ c. Unit) (λ c h number. child_later c number (target c.marks branches) refl)
        number cs (all_of (λ c. Unit) (λ c. tt) cs)

  mixed_sole : (k : ℕ) → ((v : Node) → OnScript p v.line → AllByRecursion (Sole wanted like (nodes_in (subtree k p v))) (nodes_in (subtree k p v))) → (u v : Node) → OnScript p u.line → is_result (action_at p u.line) ≡ false → Onward p.script.lines u.line v.line → AllByRecursion (Sole wanted like (u ∷ nodes_in (subtree k p v))) (u ∷ nodes_in (subtree k p v))
  mixed_sole k ih u v on goes w =
      let there : OnScript p v.line = onward p u.line v.line on w in
      on_top u (nodes_in (subtree k p v)) goes
      (All-weaker (Descends p (suc u.line) v.trace) (λ x. u.line < x.line) (λ x d. d.from) (nodes_in (subtree k p v))
      (descend p ok k v (suc u.line) v.trace
      (record { from = w.later; on = there; more = []; extends = sym (append-nil v.trace) })))
      (ih v there)

  by_action : (k : ℕ) → ((v : Node) → OnScript p v.line → AllByRecursion (Sole wanted like (nodes_in (subtree k p v))) (nodes_in (subtree k p v))) → (u : Node) → OnScript p u.line → (action : Action) → action_at p u.line ≡ action → LawfulAction p.script.cards p.script.lines u.line action → AllByRecursion (Sole wanted like (u ∷ nodes_in (events_below (subtree k p) p u action))) (u ∷ nodes_in (events_below (subtree k p) p u action))
  by_action k ih u on (permute images next) e lawful =
      mixed_sole k ih u (mixed_node p (permuting images next) u) on (ap is_result e) lawful.1
  by_action k ih u on (shuffle total next) e lawful =
      mixed_sole k ih u (mixed_node p (shuffling p u.line total next) u) on (ap is_result e) lawful.1.1
  by_action k ih u on (turn places branches) e lawful =
      on_top u (nodes_in (turn_events (subtree k p) branches u (suc u.number) (children p.script.cards places u.rows))) (ap is_result e)
      (turn_later k u on branches (length places) lawful.1.1 (suc u.number) (children p.script.cards places u.rows))
      (turn_sole k u on branches (length places) lawful.1.1 ih (suc u.number) (children p.script.cards places u.rows)
      (children_apart p.script.cards places (length u.rows) u.rows))
  by_action k ih u on (committed left right) e lawful = ((λ w f foreign. sum_by-cons f u [] ∙ add-zero (f u)), tt)
  by_action k ih u on (opened value) e lawful = ((λ w f foreign. sum_by-cons f u [] ∙ add-zero (f u)), tt)
  by_action k ih u on none e lawful = absurd lawful

  pub sole_node : (k : ℕ) (u : Node) → OnScript p u.line → AllByRecursion (Sole wanted like (nodes_in (subtree k p u))) (nodes_in (subtree k p u))
  unfolding subtree
  sole_node zero u on = tt
  sole_node (suc k) u on =
      by_action k (sole_node k) u on (action_at p u.line) refl (lawful_at p ok u.line on)
