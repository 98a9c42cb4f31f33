-- Node by node: weights and totals count the draw lists that bring the machine to a node.
use Rattle.std.proofs.Common.{◌≡◌, ℕ, zero, suc, ◌*◌, ◌<◌, ◌≤◌, Bool, true, false, cond, ◌&&◌, eqb, ltb, List, [], ◌∷◌, ◌++◌, length, Some, None, sum_by, Option, sym, refl, ap, ◌∙◌, subst, le_trans, le_refl, mul-zero, mul-one, arith, lit≤, pow_mono, eq-eqb, eqb-true}
use Rattle.std.specs.List.{AllByRecursion}
use Rattle.std.proofs.ByRecursion.{All-weaker}
use Rattle.std.proofs.lemmas.Bool.{and_parts, and_from, or_from, false≢true}
use Rattle.cards.specs.Rows.{packed}
use Rattle.script.specs.Model.{Action, permute, shuffle, turn, committed, opened, none, Onward, LawfulAction}
use Rattle.protocol.specs.Machine.{Protocol, LawfulProtocol, inputs, action_at, Mixing, permuting, shuffling, moved, marks_at, target, Trace, same_trace, Run, drawn, branched, acted, spent, or_passes, passes, is_result, stands, holds, ways, one_if, reached_with}
use Rattle.protocol.specs.States.{Row, weight, weight_of, cards_of, children, total_of}
use Rattle.protocol.specs.Tree.{Node, child_node, root, events, nodes}
use Rattle.protocol.specs.Promises.{Counted, NodeByNode}
use Rattle.protocol.proofs.Sums.{sum_by_all, times_one}
use Rattle.protocol.proofs.Same.{same_trace_refl, same_trace_true, false_from}
use Rattle.protocol.proofs.Weighed.{weighed_start, weighed_const, weighed_ext, Inward}
use Rattle.protocol.proofs.TreeSum.{OnScript, lawful_at, onward, target_onward, Single, run_at, worth_at, met_at, tree_sum, inward_permuting, inward_shuffling}
use Rattle.protocol.proofs.Nodes.{all_nodes, Mixes, ByMixing, ByTurn, Descends, descend, mixing_later, turn_later}
use Rattle.protocol.proofs.Sole.{Likeness, Sole, sole_node}
use Rattle.protocol.proofs.Good.{Packed, Good, good_start, good_mixed, good_children, weight_rows}

pub few_inputs : (p : Protocol) → LawfulProtocol p → inputs p ≤ 8
few_inputs p ok = pow_mono ok.script.few_players

pub below_eight : (p : Protocol) → LawfulProtocol p → (b : ℕ) → b < inputs p → b < 8
below_eight p ok b h = le_trans h (few_inputs p ok)

pub root_on : (p : Protocol) → LawfulProtocol p → OnScript p 2
root_on p ok = record { from = le_refl 2; there = ok.script.some_line }

-- a step of the machine goes to a later line
drawn_onward : (lines l : ℕ) (m : Mixing) (r q : Run) (ds : List ℕ) → Onward lines l m.next → drawn m r ds ≡ Some q → Onward lines l q.line
drawn_onward lines l m r q [] w e = absurd (let z : ◌≡◌ {A = ℕ} 0 1 = cc in omega arith)
drawn_onward lines l m r q (d ∷ ds) w e = go (ltb d m.total) e
  where
    go : (t : Bool) → cond t (Some (record { line = m.next; cards = moved m d r.cards; trace = r.trace; draws = ds })) None ≡ Some q → Onward lines l q.line
    go true f =
        let g : record { line = m.next; cards = moved m d r.cards; trace = r.trace; draws = ds } ≡ q = cc in
        subst (λ (x : Run). Onward lines l x.line) g w
    go false f = absurd (let z : ◌≡◌ {A = ℕ} 0 1 = cc in omega arith)

branched_onward : (lines l : ℕ) (marks : List ℕ) (r q : Run) (o : Option ℕ) → ((t : ℕ) → o ≡ Some t → Onward lines l t) → branched r marks o ≡ Some q → Onward lines l q.line
branched_onward lines l marks r q None w e = absurd (let z : ◌≡◌ {A = ℕ} 0 1 = cc in omega arith)
branched_onward lines l marks r q (Some t) w e =
    let g : record { line = t; cards = r.cards; trace = r.trace ++ marks ∷ []; draws = r.draws } ≡ q = cc in
    subst (λ (x : Run). Onward lines l x.line) g (w t refl)

pub acted_onward : (p : Protocol) (r q : Run) (action : Action) → LawfulAction p.script.cards p.script.lines r.line action → acted p r action ≡ Some q → Onward p.script.lines r.line q.line
acted_onward p r q (permute images next) law e =
    let g : record { line = next; cards = moved (permuting images next) 0 r.cards; trace = r.trace; draws = r.draws } ≡ q = cc in
    subst (λ (x : Run). Onward p.script.lines r.line x.line) g law.1
acted_onward p r q (shuffle total next) law e =
    drawn_onward p.script.lines r.line (shuffling p r.line total next) r q r.draws law.1.1 e
acted_onward p r q (turn places branches) law e =
    branched_onward p.script.lines r.line (marks_at places r.cards) r q (target (marks_at places r.cards) branches)
    (λ t f. target_onward p.script.lines r.line (length places) (marks_at places r.cards) branches t law.1.1 f) e
acted_onward p r q (committed left right) law e = absurd (let z : ◌≡◌ {A = ℕ} 0 1 = cc in omega arith)
acted_onward p r q (opened value) law e = absurd (let z : ◌≡◌ {A = ℕ} 0 1 = cc in omega arith)
acted_onward p r q none law e = absurd law

-- a test that holds at one line only
module _ (p : Protocol) (ok : LawfulProtocol p) (l : ℕ) (test : Run → Bool) (at : (r : Run) → test r ≡ true → r.line ≡ l) where
  passes_above : (k : ℕ) (r : Run) → OnScript p r.line → l < r.line → passes k p test r ≡ false
  unfolding passes
  passes_above zero r on h = refl
  passes_above (suc k) r on h =
      or_from (spent r.draws && test r) (or_passes (acted p r (action_at p r.line)) (passes k p test))
      (false_from (spent r.draws && test r) (λ e. let f = at r (and_parts (spent r.draws) (test r) e).1 in omega arith))
      (go (acted p r (action_at p r.line)) refl (passes_above k))
    where
      go : (o : Option Run) → acted p r (action_at p r.line) ≡ o → ((q : Run) → OnScript p q.line → l < q.line → passes k p test q ≡ false) → or_passes o (passes k p test) ≡ false
      go None e ih = refl
      go (Some q) e ih =
          let w = acted_onward p r q (action_at p r.line) (lawful_at p ok r.line on) e in
          ih q (onward p r.line q.line on w) (let a = w.later in omega arith)

  pub single_line : Single p test
  single_line k r q on e f =
      let w = acted_onward p r q (action_at p r.line) (lawful_at p ok r.line on) f in
      let g = at r e in
      passes_above k q (onward p r.line q.line on w) (let a = w.later in omega arith)

-- a test that holds at result lines only
result_stops : (p : Protocol) (r : Run) (action : Action) → is_result action ≡ true → acted p r action ≡ None
result_stops p r (permute images next) e = absurd (false≢true e)
result_stops p r (shuffle total next) e = absurd (false≢true e)
result_stops p r (turn places branches) e = absurd (false≢true e)
result_stops p r (committed left right) e = refl
result_stops p r (opened value) e = refl
result_stops p r none e = refl

pub single_result : (p : Protocol) (test : Run → Bool) → ((r : Run) → test r ≡ true → is_result (action_at p r.line) ≡ true) → Single p test
single_result p test at k r q on e f =
    absurd (let g = result_stops p r (action_at p r.line) (at r e) in let z : ◌≡◌ {A = ℕ} 0 1 = cc in omega arith)

-- the draw lists that lead to what a test asks, by the nodes of the tree
pub ways_tree : (p : Protocol) → LawfulProtocol p → (b : ℕ) → b < inputs p → (test : Run → Bool) → Single p test → ways p b test ≡ sum_by (met_at p b test) (nodes p)
unfolding ways events
ways_tree p ok b h test single =
    sym (weighed_start p b (worth_at 65536 p test p.script.lines p.script.lines (root p)) ok h (below_eight p ok b h))
    ∙ tree_sum p ok 65536 (lit≤ tt) b (below_eight p ok b h) test single p.script.lines p.script.lines (le_refl p.script.lines) (root p) (root_on p ok)

-- a test that does not look at the cards
pub met_total : (p : Protocol) (b : ℕ) (test : Run → Bool) (v : Node) (t : Bool) → ((a : List ℕ) → test (run_at v a []) ≡ t) → met_at p b test v ≡ cond t (total_of b v.rows) 0
met_total p b test v true h =
    weighed_ext p.script.cards b (λ a. one_if (test (run_at v a []))) (λ a. 1) (λ a. ap one_if (h a)) v.rows
    ∙ weighed_const p.script.cards b 1 v.rows ∙ mul-one (total_of b v.rows)
met_total p b test v false h =
    weighed_ext p.script.cards b (λ a. one_if (test (run_at v a []))) (λ a. 0) (λ a. ap one_if (h a)) v.rows
    ∙ weighed_const p.script.cards b 0 v.rows ∙ mul-zero (total_of b v.rows)

-- nodes at one line with one trace
abbrev OneStand : Node → Node → Type 0
OneStand v u = (v.line ≡ u.line) × (v.trace ≡ u.trace)

one_stand : (p : Protocol) → Likeness p (λ u. Unit) OneStand
one_stand p =
    record {
      one_trace = λ v u h. h.1;
      earlier = λ u v g l h. (let e = h.0 in omega arith);
      later = λ u v w g l h. (let e = h.0 in omega arith);
    }

stands_from : (v u : Node) (a : List ℕ) → stands u.line u.trace (run_at v a []) ≡ true → OneStand v u
stands_from v u a e =
    let k = and_parts (eqb v.line u.line) (same_trace v.trace u.trace) e in
    (eqb-true v.line u.line k.0, same_trace_true v.trace u.trace k.1)

stands_itself : (u : Node) (a : List ℕ) → stands u.line u.trace (run_at u a []) ≡ true
stands_itself u a =
    and_from (eqb u.line u.line) (same_trace u.trace u.trace) (eq-eqb u.line u.line refl) (same_trace_refl u.trace)

line_of_stands : (l : ℕ) (t : Trace) (r : Run) → stands l t r ≡ true → r.line ≡ l
line_of_stands l t r e = eqb-true r.line l (and_parts (eqb r.line l) (same_trace r.trace t) e).0

pub single_stands : (p : Protocol) → LawfulProtocol p → (l : ℕ) (t : Trace) → Single p (stands l t)
single_stands p ok l t = single_line p ok l (stands l t) (line_of_stands l t)

single_holds : (p : Protocol) → LawfulProtocol p → (l : ℕ) (t : Trace) (x : ℕ) → Single p (holds p l t x)
single_holds p ok l t x =
    single_line p ok l (holds p l t x)
    (λ r e. line_of_stands l t r (and_parts (stands l t r) (eqb (packed p.script.cards r.cards) x) e).0)

-- all nodes of a tree are at lines of the script, and have good states
pub nodes_on : (p : Protocol) → LawfulProtocol p → AllByRecursion (λ u. OnScript p u.line) (nodes p)
unfolding events
nodes_on p ok =
    All-weaker (Descends p 2 []) (λ u. OnScript p u.line) (λ u d. d.on) (nodes p)
    (descend p ok p.script.lines (root p) 2 []
    (record { from = le_refl 2; on = root_on p ok; more = []; extends = refl }))

mixing_inward : (p : Protocol) → LawfulProtocol p → (l : ℕ) (action : Action) → LawfulAction p.script.cards p.script.lines l action → (m : Mixing) → Mixes p l action m → Inward p.script.cards m
mixing_inward p ok l (permute images next) law m e = subst (Inward p.script.cards) (sym e) (inward_permuting p l next images law)
mixing_inward p ok l (shuffle total next) law m e = subst (Inward p.script.cards) (sym e) (inward_shuffling p ok l total next law)
mixing_inward p ok l (turn places branches) law m e = absurd e
mixing_inward p ok l (committed left right) law m e = absurd e
mixing_inward p ok l (opened value) law m e = absurd e
mixing_inward p ok l none law m e = absurd e

abbrev OnGood : Protocol → Node → Type 0
OnGood p u = OnScript p u.line × Good p.script.cards u.rows

pub nodes_good : (p : Protocol) → LawfulProtocol p → AllByRecursion (λ u. Good p.script.cards u.rows) (nodes p)
unfolding events
nodes_good p ok =
    All-weaker (OnGood p) (λ u. Good p.script.cards u.rows) (λ u h. h.1) (nodes p)
    (all_nodes p (OnGood p) mixing turning p.script.lines (root p) (root_on p ok, good_start p ok (few_inputs p ok)))
  where
    mixing : ByMixing p (OnGood p)
    mixing u m e h =
        let law = lawful_at p ok u.line h.0 in (
          onward p u.line m.next h.0 (mixing_later p ok u.line h.0 (action_at p u.line) law m e),
          good_mixed p.script.cards m ok.script.few_cards (mixing_inward p ok u.line (action_at p u.line) law m e) u.rows h.1,
        )

    turning : ByTurn p (OnGood p)
    turning u places branches e h =
        All-weaker (λ c. Good p.script.cards c.rows)
        (λ c. (number l : ℕ) → target c.marks branches ≡ Some l → OnGood p (child_node u c number l))
        (λ c g number l f. (onward p u.line l h.0 (turn_later p ok u.line h.0 places branches e c.marks l f), g))
        (children p.script.cards places u.rows)
        (good_children p.script.cards places (length u.rows) u.rows h.1)

-- the weight of the rows of a node with a sequence
held_weight : (p : Protocol) (b : ℕ) (u : Node) (x : ℕ) → AllByRecursion (Packed p.script.cards) u.rows → met_at p b (holds p u.line u.trace x) u ≡ weight_of b x u.rows
held_weight p b u x h = sum_by_all (λ r. weight b r * one_if (holds p u.line u.trace x (run_at u (cards_of n r) []))) (λ r. cond (eqb r.sequence x) (weight b r) 0) u.rows (All-weaker (Packed n) (λ r. weight b r * one_if (holds p u.line u.trace x (run_at u (cards_of n r) [])) ≡ cond (eqb r.sequence x) (weight b r) 0) each u.rows h)
  where
    n : ℕ
    n = p.script.cards

    each : (r : Row) → Packed n r → weight b r * one_if (holds p u.line u.trace x (run_at u (cards_of n r) [])) ≡ cond (eqb r.sequence x) (weight b r) 0
    each r e =
        ap (λ t. weight b r * one_if (t && eqb (packed n (cards_of n r)) x)) (stands_itself u (cards_of n r))
        ∙ ap (λ k. weight b r * one_if (eqb k x)) e
        ∙ times_one (weight b r) (eqb r.sequence x)

module _ (p : Protocol) (ok : LawfulProtocol p) (b : ℕ) (h : b < inputs p) where
  at_node : (u : Node) → Sole (λ v. Unit) OneStand (nodes p) u → (test : Run → Bool) → Single p test → ((r : Run) → test r ≡ true → stands u.line u.trace r ≡ true) → ways p b test ≡ met_at p b test u
  at_node u sole test single at =
      ways_tree p ok b h test single ∙ sole tt (met_at p b test) (λ v differ. zero v differ)
    where
      zero : (v : Node) → (OneStand v u → ⊥) → met_at p b test v ≡ 0
      zero v differ =
          met_total p b test v false
          (λ a. false_from (test (run_at v a [])) (λ e. differ (stands_from v u a (at (run_at v a []) e))))

  counted : (u : Node) → Sole (λ v. Unit) OneStand (nodes p) u → Good p.script.cards u.rows → Counted p b u
  counted u sole good =
      record {
        state = good.state;
        row = All-weaker (λ r. weight_of b r.sequence u.rows ≡ weight b r)
            (λ r. weight b r ≡ reached_with p b u.line u.trace r.sequence)
            (λ r e. sym e ∙ elsewhere r.sequence) u.rows (weight_rows b u.rows good.state.ascending);
        elsewhere = elsewhere;
        total =
            sym (at_node u sole (stands u.line u.trace) (single_stands p ok u.line u.trace) (λ r e. e)
            ∙ met_total p b (stands u.line u.trace) u true (stands_itself u));
      }
    where
      elsewhere : (x : ℕ) → weight_of b x u.rows ≡ reached_with p b u.line u.trace x
      elsewhere x =
          sym (at_node u sole (holds p u.line u.trace x) (single_holds p ok u.line u.trace x)
          (λ r e. (and_parts (stands u.line u.trace r) (eqb (packed p.script.cards r.cards) x) e).0)
          ∙ held_weight p b u x good.numbered)

pub all_both : {X : Type 0} (P Q R : X → Type 0) → ((x : X) → P x → Q x → R x) → (xs : List X) → AllByRecursion P xs → AllByRecursion Q xs → AllByRecursion R xs
all_both P Q R f [] a b = tt
all_both P Q R f (x ∷ xs) a b = (f x a.0 b.0, all_both P Q R f xs a.1 b.1)

pub nodes_sole : (p : Protocol) → LawfulProtocol p → AllByRecursion (Sole (λ v. Unit) OneStand (nodes p)) (nodes p)
unfolding events
nodes_sole p ok = sole_node p ok (λ v. Unit) OneStand (one_stand p) p.script.lines (root p) (root_on p ok)

pub node_by_node : NodeByNode
node_by_node p ok b h =
    all_both (Sole (λ v. Unit) OneStand (nodes p)) (λ u. Good p.script.cards u.rows) (Counted p b)
    (counted p ok b h) (nodes p) (nodes_sole p ok) (nodes_good p ok)
