-- The children of a turn one after the other, and the rows that a node's child has.
use Rattle.std.proofs.Common.{◌≡◌, ℕ, suc, ◌+◌, ◌<◌, ◌≤◌, List, [], ◌∷◌, ◌++◌, length, take, Some, None, Ok, Err, Option, Result, sym, ap, ◌∙◌, subst, arith}
use Rattle.std.proofs.lemmas.List.{take_at}
use Rattle.std.specs.List.{AllByRecursion}
use Rattle.script.specs.Model.{Action, Branch, turn, LawfulAction, LawfulBranch}
use Rattle.script.specs.Faults.{Fault}
use Rattle.protocol.specs.Machine.{Protocol, Trace, action_at, target}
use Rattle.protocol.specs.States.{Row, Child, children}
use Rattle.protocol.specs.Table.{bytes_of}
use Rattle.protocol.specs.Tree.{Node, Event, child_events, turn_events, events_below, subtree, bench_rows}
use Rattle.rows.specs.declared.row.Row as code
use Rattle.rows.specs.Turns.{Next, child_of, later, rows_after}
use Rattle.rows.specs.Views.{rows_view}
use Rattle.sheet.specs.declared.states.CheckedScript.{CheckedScript}
use Rattle.sheet.specs.Sheets.{script}
use Rattle.tree.specs.declared.fault.TreeFault.{TreeFault}
use Rattle.tree.specs.declared.fault.TreeFault.TheVariants.{NoBranch}
use Rattle.tree.specs.Faults.{shown}
use Rattle.tree.specs.Walks.{node_at, Arrived, Entered, Held, Walked, faulted, Grown, Made, Below}
use Rattle.line_parts.proofs.Acting.{few_places}
use Rattle.tree.proofs.Arriving.{acts}
use Rattle.tree.proofs.Growing.{made_grown, child_made}
use Rattle.tree.proofs.Walking.{turn_on, turn_refused, turn_over, no_branch}

-- What is known of a turn's places and branches.
pub record TurnFacts (s : CheckedScript) (line : ℕ) (places : List ℕ) (branches : List Branch) : Type 0 where
  pub few_cards : (script s).cards ≤ 12
  pub few : length places ≤ 12
  pub inside : AllByRecursion (λ p. (1 ≤ p) × (p ≤ (script s).cards)) places
  pub onward : AllByRecursion (LawfulBranch (script s).lines line (length places)) branches

pub turn_facts : (s : CheckedScript) (line : ℕ) (rows : List Row) → Arrived s line rows → (places : List ℕ) (branches : List Branch) → turn places branches ≡ (script s).action line → TurnFacts s line places branches
turn_facts s line rows a places branches e =
    let h = subst (LawfulAction (script s).cards (script s).lines line) (sym e) (acts s line rows a) in
    record {
      few_cards = a.standing.lawful.few_cards;
      few = few_places s line places branches (sym e);
      inside = h.1.0;
      onward = h.1.1;
    }

-- A walk over the children that are left, from the nodes counted and the visitor reached, is one over all of them.
abbrev pub Turned : {V : Type 0} → (Protocol → Node → V → V → Type 0) → Protocol → (node line : ℕ) → List Row → List Branch → ℕ → List ℕ → List Child → ℕ → V → List Child → ℕ → V → Type 0
Turned {V} visits p node line rows branches rest marks all count before left reached between =
    (bench depth need : ℕ) (trace : Trace) (after : V) (answer : Result ℕ Fault)
    → p.script.lines ≤ suc line + depth → need + rest ≡ bench_rows bench → bytes_of trace ≡ marks
    → Walked (visits p) bench (turn_events (subtree depth p) branches (node_at node line need rows trace) reached left) reached between after answer
    → Walked (visits p) bench (turn_events (subtree depth p) branches (node_at node line need rows trace) count all) count before after answer

module _ {V : Type 0} (visits : Protocol → Node → V → V → Type 0) (p : Protocol) (node line : ℕ) (rows : List Row) (branches : List Branch) (rest : ℕ) (marks : List ℕ) (all : List Child) (count : ℕ) (before : V)
    (left : List Child) (reached : ℕ) (between : V) (t : Turned visits p node line rows branches rest marks all count before left reached between) where
  module _ (more : List Child) (child : Child) (e : left ≡ child ∷ more) (next : ℕ) (f : target child.marks branches ≡ Some next) (l : line < next) (after : V) where
    pub turned_on : (n : ℕ) → Made visits p next child.rows rest (marks ++ child.marks) reached between after (Ok n)
        → Turned visits p node line rows branches rest marks all count before more n after
    turned_on n made bench depth need trace last answer d h b w =
        let u : Node = node_at node line need rows trace in
        t bench depth need trace last answer d h b
        (subst (λ (xs : List Child). Walked (visits p) bench (turn_events (subtree depth p) branches u reached xs) reached between last answer) (sym e)
        (turn_on (visits p) bench (subtree depth p) branches u child more reached between after n last answer
        (child_made visits p node line rows branches child next f l rest marks reached between after (Ok n) made bench depth need trace d h b) w))

  module _ (places : List ℕ) (e : turn places branches ≡ action_at p line) (is : all ≡ children p.script.cards places rows) (n : count ≡ suc node) where
    below_turn : (after : V) (answer : Result ℕ TreeFault)
        → ((bench depth need : ℕ) (trace : Trace) → p.script.lines ≤ suc line + depth → need + rest ≡ bench_rows bench → bytes_of trace ≡ marks
        → Walked (visits p) bench (turn_events (subtree depth p) branches (node_at node line need rows trace) reached left) reached between after (faulted answer))
        → Below visits p line rows rest marks count before after answer
    below_turn after answer h bench depth need number trace d f b k =
        let same : node ≡ number = omega arith in
        subst (λ (es : List Event). Walked (visits p) bench es count before after (faulted answer))
        (ap (λ (x : ℕ). turn_events (subtree depth p) branches (node_at x line need rows trace) count all) same
        ∙ ap (λ (x : ℕ). turn_events (subtree depth p) branches (node_at number line need rows trace) x all) k
        ∙ ap (λ (xs : List Child). turn_events (subtree depth p) branches (node_at number line need rows trace) (suc number) xs) is
        ∙ ap (λ (a : Action). events_below (subtree depth p) p (node_at number line need rows trace) a) e)
        (t bench depth need trace after (faulted answer) d f b (h bench depth need trace d f b))

    pub below_turned : left ≡ [] → Below visits p line rows rest marks count before between (Ok reached)
    below_turned f =
        below_turn between (Ok reached) (λ bench depth need trace d g b.
        turn_over (visits p) bench (subtree depth p) branches (node_at node line need rows trace) left reached between f)

    module _ (more : List Child) (child : Child) (f : left ≡ child ∷ more) (after : V) where
      refusing : (fault : TreeFault)
          → ((bench depth need : ℕ) (trace : Trace) → p.script.lines ≤ suc line + depth → need + rest ≡ bench_rows bench → bytes_of trace ≡ marks
          → Walked (visits p) bench (child_events (subtree depth p) (node_at node line need rows trace) child reached (target child.marks branches)) reached between after (Err (shown fault)))
          → Below visits p line rows rest marks count before after (Err fault)
      refusing fault c =
          below_turn after (Err fault) (λ bench depth need trace d g b.
          let u : Node = node_at node line need rows trace in
          subst (λ (xs : List Child). Walked (visits p) bench (turn_events (subtree depth p) branches u reached xs) reached between after (Err (shown fault))) (sym f)
          (turn_refused (visits p) bench (subtree depth p) branches u child more reached between after (shown fault) (c bench depth need trace d g b)))

      pub below_refused : (next : ℕ) → target child.marks branches ≡ Some next → line < next → (fault : TreeFault)
          → Made visits p next child.rows rest (marks ++ child.marks) reached between after (Err fault) → Below visits p line rows rest marks count before after (Err fault)
      below_refused next k l fault made =
          refusing fault (child_made visits p node line rows branches child next k l rest marks reached between after (Err fault) made)

    pub below_missing : (more : List Child) (child : Child) → left ≡ child ∷ more → target child.marks branches ≡ None → Below visits p line rows rest marks count before between (Err (NoBranch line node))
    below_missing more child f k =
        refusing more child f between (NoBranch line node) (λ bench depth need trace d g b.
        no_branch (visits p) bench (subtree depth p) (node_at node line need rows trace) child reached (target child.marks branches) between k)

-- the child that comes next, and those after it
module _ (cards n : ℕ) (same : cards ≡ n) (places : List ℕ) (rows : List Row) (last answer : Option (List ℕ)) (h : Next cards places rows answer (children cards places (rows_after cards places last rows))) where
  next : Next n places rows answer (children n places (rows_after n places last rows))
  next = subst (λ (k : ℕ). Next k places rows answer (children k places (rows_after k places last rows))) same h

  pub next_none : answer ≡ None → children n places (rows_after n places last rows) ≡ []
  next_none e = subst (λ (o : Option (List ℕ)). Next n places rows o (children n places (rows_after n places last rows))) e next

  pub next_some : (marks : List ℕ) → answer ≡ Some marks
      → children n places (rows_after n places last rows) ≡ child_of n places (take (length places) marks) rows ∷ children n places (later n places (take (length places) marks) rows)
  next_some marks e = subst (λ (o : Option (List ℕ)). Next n places rows o (children n places (rows_after n places last rows))) e next

-- the rows of a node at the front of the room
module _ (room state rest : List code.Row) (len : ℕ) (e : room ≡ state ++ rest) (f : length state ≡ len) where
  front : rows_view (take len room) ≡ rows_view state
  front = ap (λ (xs : List code.Row). rows_view (take len xs)) e ∙ ap rows_view (take_at state rest len f)

  pub front_arrived : (s : CheckedScript) (line : ℕ) (answer : Option ℕ) → answer ≡ Some len → Entered s line answer room → Arrived s line (rows_view state)
  front_arrived s line answer a h = subst (Arrived s line) front (h.arrived len a)

  pub front_grown : {V : Type 0} (visits : Protocol → Node → V → V → Type 0) (p : Protocol) (line : ℕ) (marks : List ℕ) (count : ℕ) (before after : V) (made : Result ℕ TreeFault) (answer : Option ℕ) (rows : List Row) → length rest + len ≡ length room
      → answer ≡ Some len → Held answer rows room → Grown visits p line (rows_view state) (length rest) marks count before after made → Made visits p line rows (length room) marks count before after made
  front_grown visits p line marks count before after made answer rows l a h g =
      let k : Held (Some len) rows room = subst (λ (o : Option ℕ). Held o rows room) a h in
      made_grown visits p line marks count before rows len (length room) (length rest) after made k.0 l
      (subst (λ (xs : List Row). Grown visits p line xs (length rest) marks count before after made) (sym front ∙ k.1) g)
