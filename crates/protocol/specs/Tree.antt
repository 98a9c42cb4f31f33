-- The tree of a protocol's states, and the certificate read off its nodes.
use Rattle.std.specs.Prelude.{◌≡◌, ℕ, zero, suc, ◌+◌, min, Bool, true, cond, not, ◌&&◌, List, [], ◌∷◌, ◌++◌, length, replicate, is_some, Some, None, Ok, Err, Option, Result, ◌==◌, nat_le, nat_lt, slice_index}
use Rattle.std.specs.Option.{option_or}
use Rattle.cards.specs.Lists.{table}
use Rattle.script.specs.Model.{Branch, Action, permute, shuffle, turn, committed, opened, none}
use Rattle.script.specs.Faults.{Fault}
use Rattle.script.specs.declared.fault.Layer.TheVariants.{Tree as tree_layer}
use Rattle.protocol.specs.Machine.{Protocol, inputs, action_at, Mixing, permuting, shuffling, target, Trace, is_result}
use Rattle.protocol.specs.States.{Row, Child, start_state, mixed, children, total_of, leaks, wrongness}

-- A node: a state and its line. Nodes are numbered as they are made, the root first. The path need is the number of
-- rows of the node and of all its ancestors together. The trace is what the turns on the way have shown.
pub record Node : Type 0 where
  pub number : ℕ
  pub line : ℕ
  pub need : ℕ
  pub rows : List Row
  pub trace : Trace

-- What happens as the tree is made: a node, or marks shown by some row of a turn's node for which there is no branch.
pub data Event : Type 0 where
  made : Node → Event
  missing : (line : ℕ) → (node : ℕ) → Event

abbrev pub nodes_in : List Event → List Node
nodes_in [] = []
nodes_in (made u ∷ es) = u ∷ nodes_in es
nodes_in (missing l k ∷ es) = nodes_in es

-- the node after a permute or a shuffle
abbrev pub mixed_node : Protocol → Mixing → Node → Node
mixed_node p m u =
    record {
      number = suc u.number;
      line = m.next;
      need = u.need + length (mixed p.script.cards m u.rows);
      rows = mixed p.script.cards m u.rows;
      trace = u.trace;
    }

-- the node of a turn's child, numbered k, at a line
abbrev pub child_node : Node → Child → ℕ → ℕ → Node
child_node u c k l =
    record {
      number = k;
      line = l;
      need = u.need + length c.rows;
      rows = c.rows;
      trace = u.trace ++ c.marks ∷ [];
    }

-- The events of a child, and of all children one after the other, the first node numbered k. `grow` has the events of
-- a whole subtree.
abbrev pub child_events : (Node → List Event) → Node → Child → ℕ → Option ℕ → List Event
child_events grow u c k None = missing u.line u.number ∷ []
child_events grow u c k (Some l) = grow (child_node u c k l)

abbrev pub turn_events : (Node → List Event) → List Branch → Node → ℕ → List Child → List Event
turn_events grow branches u k [] = []
turn_events grow branches u k (c ∷ cs) =
    let es : List Event = child_events grow u c k (target c.marks branches) in
    es ++ turn_events grow branches u (k + length (nodes_in es)) cs

-- the events below a node, by the action at its line
abbrev pub events_below : (Node → List Event) → Protocol → Node → Action → List Event
events_below grow p u (permute images next) = grow (mixed_node p (permuting images next) u)
events_below grow p u (shuffle total next) = grow (mixed_node p (shuffling p u.line total next) u)
events_below grow p u (turn places branches) =
    turn_events grow branches u (suc u.number) (children p.script.cards places u.rows)
events_below grow p u (committed left right) = []
events_below grow p u (opened value) = []
events_below grow p u none = []

-- The events of a node and its subtree in the order in which the nodes are made: a node before what is below it, and
-- a child's whole subtree before the next child. (The first number bounds the depth; lines ascend, so as many as the
-- script has lines are enough.)
unfoldable pub subtree : ℕ → Protocol → Node → List Event
subtree zero p u = []
subtree (suc k) p u = made u ∷ events_below (subtree k p) p u (action_at p u.line)

abbrev pub root : Protocol → Node
root p =
    record { number = 0; line = 2; need = length (start_state p); rows = start_state p; trace = [] }

unfoldable pub events : Protocol → List Event
events p = subtree p.script.lines p (root p)

abbrev pub nodes : Protocol → List Node
nodes p = nodes_in (events p)

-- Why the tree is not built, with a bench of so many rows, of which at most 65,535 count: 20, marks without a branch;
-- 22, a node number 512; 21, a path need above the bench.
abbrev pub bench_rows : ℕ → ℕ
bench_rows bench = min bench 65535

abbrev pub tree_fault : ℕ → ℕ → ℕ → Fault
tree_fault number line place = record { number = number; layer = tree_layer; line = line; place = place }

abbrev pub offence : ℕ → Event → Option Fault
offence bench (missing l k) = Some (tree_fault 20 l k)
offence bench (made u) =
    cond (nat_le 512 u.number) (Some (tree_fault 22 u.line 512))
    (cond (nat_lt (bench_rows bench) u.need) (Some (tree_fault 21 u.line u.number)) None)

-- The certificate: how many nodes, the first wrong one, the first that leaks, and the class of each input.
pub record Certificate : Type 0 where
  pub count : ℕ
  pub wrong : Option ℕ
  pub leaking : Option ℕ
  pub classes : List ℕ

abbrev pub class : Certificate → ℕ → ℕ
class c b = slice_index c.classes b

-- the first number from b on, of k, that passes the test, or else the one after them
abbrev pub first_from : ℕ → ℕ → (ℕ → Bool) → ℕ
first_from zero b test = b
first_from (suc k) b test = let later : ℕ = first_from k (suc b) test in cond (test b) b later

-- At a result node the classes are divided by the totals: the least input of the same class and total.
abbrev pub divided : Protocol → List Row → List ℕ → List ℕ
divided p rows classes =
    table (inputs p)
    (λ b. first_from b 0 (λ c. (slice_index classes c == slice_index classes b) && total_of c rows == total_of b rows))

abbrev pub noted_number : Bool → ℕ → Option ℕ
noted_number b k = cond b (Some k) None

abbrev pub is_wrong : Protocol → Node → Bool
is_wrong p u = is_some (wrongness p u.line u.rows)

-- the certificate after one node more
abbrev pub noted : Protocol → Node → Certificate → Certificate
noted p u c =
    record {
      count = suc c.count;
      wrong = option_or c.wrong (noted_number (is_wrong p u) u.number);
      leaking = option_or c.leaking (noted_number (leaks p u.rows) u.number);
      classes = cond (is_result (action_at p u.line)) (divided p u.rows c.classes) c.classes;
    }

-- Events are taken in order; the first that offends is the refusal, and a node that does not is noted.
abbrev pub or_fault : Option Fault → Result Certificate Fault → Result Certificate Fault
or_fault None r = r
or_fault (Some f) r = Err f

abbrev pub noted_event : Protocol → Event → Certificate → Certificate
noted_event p (made u) c = noted p u c
noted_event p (missing l k) c = c

unfoldable pub scan : Protocol → ℕ → List Event → Certificate → Result Certificate Fault
scan p bench [] c = Ok c
scan p bench (e ∷ es) c = or_fault (offence bench e) (scan p bench es (noted_event p e c))

-- nothing noted yet: all inputs are of one class
abbrev pub blank : Protocol → Certificate
blank p = record { count = 0; wrong = None; leaking = None; classes = replicate (inputs p) 0 }

unfoldable pub certify : Protocol → ℕ → Result Certificate Fault
certify p bench = scan p bench (events p) (blank p)

-- A protocol is certified when its tree is built and no node is wrong or leaks.
abbrev pub faultless : Certificate → Bool
faultless c = not (is_some c.wrong) && not (is_some c.leaking)

pub record Certified (p : Protocol) (bench : ℕ) (c : Certificate) : Type 0 where
  pub built : certify p bench ≡ Ok c
  pub faultless : faultless c ≡ true
