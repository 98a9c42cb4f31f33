-- The machine and the tree: what a run passes, counted over all draws and summed over a node's rows, is found at the
-- nodes of the subtree.
use Rattle.std.proofs.Common.{◌≡◌, ℕ, zero, suc, ◌+◌, ◌-◌, ◌<◌, ◌≤◌, Bool, true, false, cond, ◌&&◌, ◌||◌, ltb, List, [], ◌∷◌, ◌++◌, length, Some, None, sum_by, Option, sym, refl, ap, ◌∙◌, subst, add-zero, mul-zero, zero-add, arith}
use mathlib.Core.Path.{fun_ext}
use Rattle.std.specs.List.{AllByRecursion}
use Rattle.std.proofs.lemmas.List.Sums.{sum_by-cons, sum_by-append}
use Rattle.std.proofs.lemmas.Bool.{false≢true}
use Rattle.script.specs.Model.{Branch, Action, permute, shuffle, turn, committed, opened, none, Onward, LawfulBranch, LawfulAction}
use Rattle.protocol.specs.Machine.{Protocol, LawfulProtocol, action_at, Mixing, permuting, shuffling, moved, marks_at, same, target, Run, acted, drawn, branched, spent, or_passes, passes, sum_below, one_if, count, counts}
use Rattle.protocol.specs.States.{Child, children}
use Rattle.protocol.specs.Tree.{Node, Event, made, missing, nodes_in, mixed_node, child_node, child_events, turn_events, events_below, subtree}
use Rattle.protocol.proofs.Sums.{sum_below_split, counts_none, counts_step}
use Rattle.protocol.proofs.Dealt.{inside_permute, inside_fitted}
use Rattle.protocol.proofs.Weighed.{weighed, weighed_add, weighed_ext, weighed_const, weighed_mixed, weighed_children, weighed_sum_below, Inward}

-- a run at a node, with these cards and draws
abbrev pub run_at : Node → List ℕ → List ℕ → Run
run_at u a ds = record { line = u.line; cards = a; trace = u.trace; draws = ds }

-- a line at which a run may stand
pub record OnScript (p : Protocol) (l : ℕ) : Type 0 where
  pub from : 2 ≤ l
  pub there : l < p.script.lines

pub lawful_at : (p : Protocol) → LawfulProtocol p → (l : ℕ) → OnScript p l → LawfulAction p.script.cards p.script.lines l (action_at p l)
lawful_at p ok l on = ok.script.acts l on.from on.there

pub onward : (p : Protocol) (l next : ℕ) → OnScript p l → Onward p.script.lines l next → OnScript p next
onward p l next on w = record { from = (let k = on.from in let h = w.later in omega arith); there = w.there }

-- Once a run meets the test, having used up its draws, it does not meet it again.
abbrev pub Single : Protocol → (Run → Bool) → Type 0
Single p test =
    (k : ℕ) (r q : Run) → OnScript p r.line → test r ≡ true → acted p r (action_at p r.line) ≡ Some q → passes k p test q ≡ false

one_or : (x y : Bool) → (x ≡ true → y ≡ false) → one_if (x || y) ≡ one_if x + one_if y
one_or true true h = absurd (false≢true (sym (h refl)))
one_or true false h = refl
one_or false true h = refl
one_or false false h = refl

counts_or : (n m : ℕ) (t rest : List ℕ → Bool) → (t [] ≡ true → rest [] ≡ false) → counts n m (λ ds. (spent ds && t ds) || rest ds) ≡ one_if (t []) + counts n m rest
unfolding counts count
counts_or n zero t rest h = one_or (t []) (rest []) h
counts_or n (suc m) t rest h =
    counts_step n m (λ ds. (spent ds && t ds) || rest ds)
    ∙ ap (λ k. k + sum_below n (λ d. counts n m (λ ds. rest (d ∷ ds)))) (one_or (t []) (rest []) h)
    ∙ assoc (one_if (t [])) (one_if (rest [])) (sum_below n (λ d. counts n m (λ ds. rest (d ∷ ds))))
    ∙ ap (λ k. one_if (t []) + k) (sym (counts_step n m rest))
  where
    assoc : (a b c : ℕ) → a + b + c ≡ a + (b + c)
    assoc a b c = omega arith

pub nodes_append : (es fs : List Event) → nodes_in (es ++ fs) ≡ nodes_in es ++ nodes_in fs
nodes_append [] fs = refl
nodes_append (made u ∷ es) fs = ap (λ (vs : List Node). u ∷ vs) (nodes_append es fs)
nodes_append (missing l k ∷ es) fs = nodes_append es fs

pub inward_permuting : (p : Protocol) (l next : ℕ) (images : List ℕ) → LawfulAction p.script.cards p.script.lines l (permute images next) → Inward p.script.cards (permuting images next)
inward_permuting p l next images h d = inside_permute p.script.cards images h.0

pub inward_shuffling : (p : Protocol) → LawfulProtocol p → (l total next : ℕ) → LawfulAction p.script.cards p.script.lines l (shuffle total next) → Inward p.script.cards (shuffling p l total next)
inward_shuffling p ok l total next h d =
    inside_fitted p.script.cards total (p.bank l) d
    (let k = ok.script.some_cards in omega arith) ok.script.few_cards h.0 h.1.0 (ok.bank l)

-- how many lists of at most m draws bring a run from a node, with these cards, to what the test asks
abbrev pub worth_at : ℕ → Protocol → (Run → Bool) → ℕ → ℕ → Node → List ℕ → ℕ
worth_at n p test k m u a = counts n m (λ ds. passes k p test (run_at u a ds))

-- the weight of a node's rows that meet the test
abbrev pub met_at : Protocol → ℕ → (Run → Bool) → Node → ℕ
met_at p b test v = weighed p.script.cards b (λ a. one_if (test (run_at v a []))) v.rows

abbrev pub TreeSum : ℕ → Protocol → ℕ → (Run → Bool) → ℕ → Type 0
TreeSum n p b test k =
    (m : ℕ) → k ≤ m → (u : Node) → OnScript p u.line
    → weighed p.script.cards b (worth_at n p test k m u) u.rows ≡ sum_by (met_at p b test) (nodes_in (subtree k p u))

-- one step of a run from a node, at an action
abbrev worth_by : ℕ → Protocol → (Run → Bool) → ℕ → ℕ → Node → Action → List ℕ → ℕ
worth_by n p test k m u action a =
    counts n m (λ ds. (spent ds && test (run_at u a ds)) || or_passes (acted p (run_at u a ds) action) (passes k p test))

abbrev SingleAt : Protocol → (Run → Bool) → ℕ → Node → Action → Type 0
SingleAt p test k u action =
    (a : List ℕ) (q : Run) → test (run_at u a []) ≡ true → acted p (run_at u a []) action ≡ Some q → passes k p test q ≡ false

-- the target of a lawful branch
pub target_onward : (lines l k : ℕ) (marks : List ℕ) (branches : List Branch) (t : ℕ) → AllByRecursion (LawfulBranch lines l k) branches → target marks branches ≡ Some t → Onward lines l t
target_onward lines l k marks [] t law e = absurd (let z : ◌≡◌ {A = ℕ} 0 1 = cc in omega arith)
target_onward lines l k marks (c ∷ cs) t law e = go (same c.marks marks) e (target_onward lines l k marks cs t law.1)
  where
    go : (x : Bool) → cond x (Some c.target) (target marks cs) ≡ Some t → (target marks cs ≡ Some t → Onward lines l t) → Onward lines l t
    go true e ih = let q : c.target ≡ t = cc in subst (Onward lines l) q law.0.onward
    go false e ih = ih e

-- what a turn's branch is worth, for cards that show these marks
abbrev branch_worth : ℕ → Protocol → (Run → Bool) → ℕ → ℕ → Node → List ℕ → Option ℕ → List ℕ → ℕ
branch_worth n p test k m u marks None a = 0
branch_worth n p test k m u marks (Some l) a =
    counts n m (λ ds. passes k p test (record { line = l; cards = a; trace = u.trace ++ marks ∷ []; draws = ds }))

module _ (p : Protocol) (ok : LawfulProtocol p) (n : ℕ) (room : 65535 ≤ n) (b : ℕ) (few : b < 8) (test : Run → Bool) (k : ℕ) (ih : TreeSum n p b test k) where
  -- a line where the run stops
  stopped : (m : ℕ) (u : Node) (action : Action) → ((a ds : List ℕ) → acted p (run_at u a ds) action ≡ None) → weighed p.script.cards b (worth_by n p test k m u action) u.rows ≡ met_at p b test u + 0
  stopped m u action stop =
      weighed_ext p.script.cards b (worth_by n p test k m u action) (λ a. one_if (test (run_at u a [])))
      (λ a.
      counts_or n m (λ ds. test (run_at u a ds)) (λ ds. or_passes (acted p (run_at u a ds) action) (passes k p test))
      (λ e. ap (λ o. or_passes o (passes k p test)) (stop a []))
      ∙ ap (λ v. one_if (test (run_at u a [])) + v)
      (counts_none n m (λ ds. or_passes (acted p (run_at u a ds) action) (passes k p test))
      (λ ds. ap (λ o. or_passes o (passes k p test)) (stop a ds)))
      ∙ add-zero (one_if (test (run_at u a []))))
      u.rows
      ∙ sym (add-zero (met_at p b test u))

  permuted : (m : ℕ) → suc k ≤ m → (u : Node) → OnScript p u.line → (images : List ℕ) (next : ℕ) → LawfulAction p.script.cards p.script.lines u.line (permute images next) → SingleAt p test k u (permute images next) → weighed p.script.cards b (worth_by n p test k m u (permute images next)) u.rows ≡ met_at p b test u + sum_by (met_at p b test) (nodes_in (subtree k p (mixed_node p (permuting images next) u)))
  unfolding sum_below
  permuted m h u on images next law single =
      weighed_ext p.script.cards b (worth_by n p test k m u (permute images next))
      (λ a. one_if (test (run_at u a [])) + worth_at n p test k m child (moved (permuting images next) 0 a))
      (λ a.
      counts_or n m (λ ds. test (run_at u a ds)) (λ ds. passes k p test (run_at child (moved (permuting images next) 0 a) ds))
      (λ e. single a (run_at child (moved (permuting images next) 0 a) []) e refl))
      u.rows
      ∙ weighed_add p.script.cards b (λ a. one_if (test (run_at u a [])))
      (λ a. worth_at n p test k m child (moved (permuting images next) 0 a)) u.rows
      ∙ ap (λ v. met_at p b test u + v)
      (sym (zero-add (weighed p.script.cards b (λ a. worth_at n p test k m child (moved (permuting images next) 0 a)) u.rows))
      ∙ sym (weighed_mixed p.script.cards b (worth_at n p test k m child) (permuting images next) few ok.script.few_cards
      (inward_permuting p u.line next images law) u.rows)
      ∙ ih m (omega arith) child (onward p u.line next on law.1))
    where
      child : Node
      child = mixed_node p (permuting images next) u

  shuffled : (m : ℕ) → suc k ≤ m → (u : Node) → OnScript p u.line → (total next : ℕ) → LawfulAction p.script.cards p.script.lines u.line (shuffle total next) → weighed p.script.cards b (worth_by n p test k m u (shuffle total next)) u.rows ≡ met_at p b test u + sum_by (met_at p b test) (nodes_in (subtree k p (mixed_node p (shuffling p u.line total next) u)))
  shuffled zero h u on total next law = absurd (omega arith)
  shuffled (suc m) h u on total next law =
      weighed_ext p.script.cards b (worth_by n p test k (suc m) u (shuffle total next))
      (λ a. one_if (test (run_at u a [])) + sum_below total (λ d. worth_at n p test k m child (moved mixing d a)))
      (λ a.
      counts_or n (suc m) (λ ds. test (run_at u a ds)) (rest a) (λ e. refl)
      ∙ ap (λ v. one_if (test (run_at u a [])) + v) (counted a))
      u.rows
      ∙ weighed_add p.script.cards b (λ a. one_if (test (run_at u a [])))
      (λ a. sum_below total (λ d. worth_at n p test k m child (moved mixing d a))) u.rows
      ∙ ap (λ v. met_at p b test u + v)
      (weighed_sum_below p.script.cards b total (λ d a. worth_at n p test k m child (moved mixing d a)) u.rows
      ∙ sym (weighed_mixed p.script.cards b (worth_at n p test k m child) mixing few ok.script.few_cards
      (inward_shuffling p ok u.line total next law) u.rows)
      ∙ ih m (omega arith) child (onward p u.line next on law.1.1))
    where
      mixing : Mixing
      mixing = shuffling p u.line total next

      child : Node
      child = mixed_node p mixing u

      rest : List ℕ → List ℕ → Bool
      rest a ds = or_passes (drawn mixing (run_at u a ds) ds) (passes k p test)

      by_draw : (a : List ℕ) (d : ℕ) (t : Bool) → counts n m (λ ds. or_passes (cond t (Some (run_at child (moved mixing d a) ds)) None) (passes k p test)) ≡ cond t (worth_at n p test k m child (moved mixing d a)) 0
      by_draw a d true = refl
      by_draw a d false = counts_none n m (λ ds. false) (λ ds. refl)

      counted : (a : List ℕ) → counts n (suc m) (rest a) ≡ sum_below total (λ d. worth_at n p test k m child (moved mixing d a))
      counted a =
          counts_step n m (rest a)
          ∙ zero-add (sum_below n (λ d. counts n m (λ ds. rest a (d ∷ ds))))
          ∙ ap (sum_below n) (fun_ext (λ d. by_draw a d (ltb d total)))
          ∙ sum_below_split n total (λ d. worth_at n p test k m child (moved mixing d a)) 0 (let l = law.1.0 in omega arith)
          ∙ ap (λ v. sum_below total (λ d. worth_at n p test k m child (moved mixing d a)) + v) (mul-zero (n - total))
          ∙ add-zero (sum_below total (λ d. worth_at n p test k m child (moved mixing d a)))

  branched_worth : (m : ℕ) (u : Node) (marks a : List ℕ) (o : Option ℕ) → ((q : Run) → test (run_at u a []) ≡ true → branched (run_at u a []) marks o ≡ Some q → passes k p test q ≡ false) → counts n m (λ ds. (spent ds && test (run_at u a ds)) || or_passes (branched (run_at u a ds) marks o) (passes k p test)) ≡ one_if (test (run_at u a [])) + branch_worth n p test k m u marks o a
  branched_worth m u marks a None single =
      counts_or n m (λ ds. test (run_at u a ds)) (λ ds. false) (λ e. refl)
      ∙ ap (λ v. one_if (test (run_at u a [])) + v) (counts_none n m (λ ds. false) (λ ds. refl))
  branched_worth m u marks a (Some l) single =
      counts_or n m (λ ds. test (run_at u a ds))
      (λ ds. passes k p test (record { line = l; cards = a; trace = u.trace ++ marks ∷ []; draws = ds }))
      (λ e. single (record { line = l; cards = a; trace = u.trace ++ marks ∷ []; draws = [] }) e refl)

  child_sum : (m : ℕ) → suc k ≤ m → (u : Node) → OnScript p u.line → (c : Child) (number : ℕ) (o : Option ℕ) → ((l : ℕ) → o ≡ Some l → Onward p.script.lines u.line l) → weighed p.script.cards b (branch_worth n p test k m u c.marks o) c.rows ≡ sum_by (met_at p b test) (nodes_in (child_events (subtree k p) u c number o))
  child_sum m h u on c number None law = weighed_const p.script.cards b 0 c.rows ∙ mul-zero _
  child_sum m h u on c number (Some l) law = ih m (omega arith) (child_node u c number l) (onward p u.line l on (law l refl))

  children_sum : (m : ℕ) → suc k ≤ m → (u : Node) → OnScript p u.line → (branches : List Branch) (t : ℕ) → AllByRecursion (LawfulBranch p.script.lines u.line t) branches → (number : ℕ) (cs : List Child) → sum_by (λ c. weighed p.script.cards b (branch_worth n p test k m u c.marks (target c.marks branches)) c.rows) cs ≡ sum_by (met_at p b test) (nodes_in (turn_events (subtree k p) branches u number cs))
  children_sum m h u on branches t law number [] = refl
  children_sum m h u on branches t law number (c ∷ cs) =
      let es : List Event = child_events (subtree k p) u c number (target c.marks branches) in
      let later : List Event = turn_events (subtree k p) branches u (number + length (nodes_in es)) cs in
      sum_by-cons (λ c. weighed p.script.cards b (branch_worth n p test k m u c.marks (target c.marks branches)) c.rows) c cs
      ∙ ap (λ v. v + sum_by (λ c. weighed p.script.cards b (branch_worth n p test k m u c.marks (target c.marks branches)) c.rows) cs)
      (child_sum m h u on c number (target c.marks branches)
      (λ l e. target_onward p.script.lines u.line t c.marks branches l law e))
      ∙ ap (λ v. sum_by (met_at p b test) (nodes_in es) + v)
      (children_sum m h u on branches t law (number + length (nodes_in es)) cs)
      ∙ sym (ap (sum_by (met_at p b test)) (nodes_append es later)
      ∙ sum_by-append (met_at p b test) (nodes_in es) (nodes_in later))

  turned : (m : ℕ) → suc k ≤ m → (u : Node) → OnScript p u.line → (places : List ℕ) (branches : List Branch) → LawfulAction p.script.cards p.script.lines u.line (turn places branches) → SingleAt p test k u (turn places branches) → weighed p.script.cards b (worth_by n p test k m u (turn places branches)) u.rows ≡ met_at p b test u + sum_by (met_at p b test) (nodes_in (events_below (subtree k p) p u (turn places branches)))
  turned m h u on places branches law single =
      weighed_ext p.script.cards b (worth_by n p test k m u (turn places branches))
      (λ a. one_if (test (run_at u a [])) + branch_worth n p test k m u (marks_at places a) (target (marks_at places a) branches) a)
      (λ a. branched_worth m u (marks_at places a) a (target (marks_at places a) branches) (λ q e f. single a q e f))
      u.rows
      ∙ weighed_add p.script.cards b (λ a. one_if (test (run_at u a [])))
      (λ a. branch_worth n p test k m u (marks_at places a) (target (marks_at places a) branches) a) u.rows
      ∙ ap (λ v. met_at p b test u + v)
      (weighed_children p.script.cards b places (λ marks a. branch_worth n p test k m u marks (target marks branches) a) u.rows
      ∙ children_sum m h u on branches (length places) law.1.1 (suc u.number) (children p.script.cards places u.rows))

  by_action : (m : ℕ) → suc k ≤ m → (u : Node) → OnScript p u.line → (action : Action) → LawfulAction p.script.cards p.script.lines u.line action → SingleAt p test k u action → weighed p.script.cards b (worth_by n p test k m u action) u.rows ≡ met_at p b test u + sum_by (met_at p b test) (nodes_in (events_below (subtree k p) p u action))
  by_action m h u on (permute images next) law single = permuted m h u on images next law single
  by_action m h u on (shuffle total next) law single = shuffled m h u on total next law
  by_action m h u on (turn places branches) law single = turned m h u on places branches law single
  by_action m h u on (committed left right) law single = stopped m u (committed left right) (λ a ds. refl)
  by_action m h u on (opened value) law single = stopped m u (opened value) (λ a ds. refl)
  by_action m h u on none law single = stopped m u none (λ a ds. refl)

-- The sum over a node's rows of the draw lists that bring a run from there to what the test asks, is the weight of the
-- rows, at all nodes of the subtree, that meet it.
pub tree_sum : (p : Protocol) → LawfulProtocol p → (n : ℕ) → 65535 ≤ n → (b : ℕ) → b < 8 → (test : Run → Bool) → Single p test → (k : ℕ) → TreeSum n p b test k
unfolding passes subtree
tree_sum p ok n room b few test single zero m h u on =
    weighed_ext p.script.cards b (worth_at n p test 0 m u) (λ a. 0) (λ a. counts_none n m (λ ds. false) (λ ds. refl)) u.rows
    ∙ weighed_const p.script.cards b 0 u.rows ∙ mul-zero _
tree_sum p ok n room b few test single (suc k) m h u on =
    by_action p ok n room b few test k (tree_sum p ok n room b few test single k) m h u on (action_at p u.line)
    (lawful_at p ok u.line on) (λ a q e f. single k (run_at u a []) q on e f)
    ∙ sym (sum_by-cons (met_at p b test) u (nodes_in (events_below (subtree k p) p u (action_at p u.line))))
