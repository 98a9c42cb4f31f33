-- What is promised of a protocol, in the words of the machine and the table.
use Rattle.std.specs.Prelude.{◌≡◌, ℕ, ◌^◌, ◌<◌, ◌≤◌, Bool, true, false, cond, ◌↔◌, List, [], ◌∷◌, ◌++◌, map, length, drop, Some, None, Ok, Err, sum_by, filter, Option, ◌==◌, ◌≢◌}
use Rattle.std.specs.List.{range_with_len, ContainsAt as Has, AllByRecursion}
use Rattle.std.specs.Option.{option_or}
use Rattle.cards.specs.Decks.{bit_reading}
use Rattle.cards.specs.Rows.{packed, unpacked}
use Rattle.script.specs.Model.{permute, shuffle}
use Rattle.script.specs.Faults.{Fault}
use Rattle.protocol.specs.Machine.{Protocol, LawfulProtocol, inputs, value, action_at, laid, Mixing, permuting, shuffling, moved, one_if, sum_below, Trace, Run, begun, advanced, run_passes, is_result, given, dealings, reached, reached_with}
use Rattle.protocol.specs.States.{Row, weight, weight_of, total_of, State, start_state, mixed, before, is_shown, Child, children, must_look_alike, leaks}
use Rattle.protocol.specs.Tree.{Node, Event, events, nodes, offence, noted_number, is_wrong, certify, Certificate, Certified, class, faultless}
use Rattle.protocol.specs.Table.{empty, Call, Answer, finished, Planned, Session, session, Granted, granted, empty_table, bytes_of, fillings, finishes}

-- What the counts of draw lists count: a list counts where the run on it comes, after some number of steps, to a state
-- that meets the test with no draw left. No such list is left out, since it has no more draws than the script has lines,
-- each below 65,536.
pub record Counts (p : Protocol) (b : ℕ) (test : Run → Bool) (draws : List ℕ) : Type 0 where
  pub passes : run_passes p b test draws ≡ true ↔ ((k : ℕ) × (r : Run) × (advanced k p (begun p b draws) ≡ Some r) × (r.draws ≡ []) × (test r ≡ true))
  pub all_counted : run_passes p b test draws ≡ true → (length draws ≤ p.script.lines) × AllByRecursion (λ d. d < 65536) draws

abbrev pub DrawsCounted : Type 0
DrawsCounted = (p : Protocol) → LawfulProtocol p → (b : ℕ) (test : Run → Bool) (draws : List ℕ) → Counts p b test draws

-- The states of a tree are known by their weights: two states with the same weights are the same list of rows.
abbrev pub OneState : Type 0
OneState =
    (rows others : List Row) → State rows → State others
    → ((b x : ℕ) → b < 8 → weight_of b x rows ≡ weight_of b x others) → rows ≡ others

-- The start state has weight 1 under each input for the sequence laid for it.
pub record Starts (p : Protocol) : Type 0 where
  pub state : State (start_state p)
  pub weights : (b x : ℕ) → b < inputs p → weight_of b x (start_state p) ≡ one_if (packed p.script.cards (laid p b) == x)
  pub no_input : (b x : ℕ) → inputs p ≤ b → b < 8 → weight_of b x (start_state p) ≡ 0

-- After a permute or a shuffle the weight of a sequence under an input is the sum, over all draws, of the weight under
-- that input of the sequence which that draw carries to it. There is at most one such sequence.
abbrev pub carried_number : ℕ → Mixing → ℕ → ℕ → ℕ
carried_number n m d x = packed n (moved m d (unpacked n x))

abbrev pub weight_carried : ℕ → Mixing → ℕ → ℕ → ℕ → List Row → ℕ
weight_carried n m b d x rows = sum_by (λ r. cond (carried_number n m d r.sequence == x) (weight b r) 0) rows

pub record MixesTo (n : ℕ) (m : Mixing) (rows : List Row) : Type 0 where
  pub state : State (mixed n m rows)
  pub weights : (b x : ℕ) → b < 8 → weight_of b x (mixed n m rows) ≡ sum_below m.total (λ d. weight_carried n m b d x rows)
  pub one : (d x y : ℕ) → d < m.total → x < 16 ^ n → y < 16 ^ n → carried_number n m d x ≡ carried_number n m d y → x ≡ y

-- The children of a turn have ascending marks, just the rows that show their marks, at least one each, and all rows
-- together.
abbrev pub MarksAfter : List ℕ → List Child → Type 0
MarksAfter marks [] = Unit
MarksAfter marks (c ∷ cs) = (before marks c.marks ≡ true) × MarksAfter c.marks cs

abbrev pub MarksAscend : List Child → Type 0
MarksAscend [] = Unit
MarksAscend (c ∷ cs) = MarksAfter c.marks cs

pub record TurnsTo (n : ℕ) (places : List ℕ) (rows : List Row) (cs : List Child) : Type 0 where
  pub states : AllByRecursion (λ c. State c.rows) cs
  pub ascend : MarksAscend cs
  pub just : AllByRecursion (λ c. c.rows ≡ filter (is_shown n places c.marks) rows) cs
  pub some : AllByRecursion (λ c. 1 ≤ length c.rows) cs
  pub whole : sum_by (λ c. length c.rows) cs ≡ length rows

-- what each line of a script makes of a state
pub record Lines (p : Protocol) : Type 0 where
  pub starts : Starts p
  pub permutes : (l next : ℕ) (images : List ℕ) → 2 ≤ l → l < p.script.lines → action_at p l ≡ permute images next
      → (rows : List Row) → State rows → MixesTo p.script.cards (permuting images next) rows
  pub shuffles : (l total next : ℕ) → 2 ≤ l → l < p.script.lines → action_at p l ≡ shuffle total next
      → (rows : List Row) → State rows → MixesTo p.script.cards (shuffling p l total next) rows
  pub turns : (places : List ℕ) (rows : List Row) → State rows
      → TurnsTo p.script.cards places rows (children p.script.cards places rows)

abbrev pub StatesOfLines : Type 0
StatesOfLines = (p : Protocol) → LawfulProtocol p → Lines p

-- Nodes are numbered in the order of the list of nodes. A tree is refused by its first event that offends. Where it is
-- built, the certificate has the number of nodes, the first wrong one and the first that leaks.
abbrev pub first_offence : ℕ → List Event → Option Fault
first_offence bench [] = None
first_offence bench (e ∷ es) = option_or (offence bench e) (first_offence bench es)

abbrev pub first_number : (Node → Bool) → List Node → Option ℕ
first_number test [] = None
first_number test (u ∷ us) = option_or (noted_number (test u) u.number) (first_number test us)

pub record ReadOff (p : Protocol) (bench : ℕ) : Type 0 where
  pub numbers : map (λ u. u.number) (nodes p) ≡ range_with_len 0 (length (nodes p))
  pub refused : (f : Fault) → certify p bench ≡ Err f ↔ first_offence bench (events p) ≡ Some f
  pub built : (c : Certificate) → certify p bench ≡ Ok c
      → (first_offence bench (events p) ≡ None) × (c.count ≡ length (nodes p)) × (c.wrong ≡ first_number (is_wrong p) (nodes p))
      × (c.leaking ≡ first_number (λ u. leaks p u.rows) (nodes p))

abbrev pub AlwaysReadOff : Type 0
AlwaysReadOff = (p : Protocol) (bench : ℕ) → ReadOff p bench

-- Node by node: a row's weight under an input is the number of draw lists with which the machine, under that input,
-- reaches the node with those cards, and a node's total is the number of draw lists that reach it.
pub record Counted (p : Protocol) (b : ℕ) (u : Node) : Type 0 where
  pub state : State u.rows
  pub row : AllByRecursion (λ r. weight b r ≡ reached_with p b u.line u.trace r.sequence) u.rows
  pub elsewhere : (x : ℕ) → weight_of b x u.rows ≡ reached_with p b u.line u.trace x
  pub total : total_of b u.rows ≡ reached p b u.line u.trace

abbrev pub NodeByNode : Type 0
NodeByNode = (p : Protocol) → LawfulProtocol p → (b : ℕ) → b < inputs p → AllByRecursion (Counted p b) (nodes p)

-- Classes: two inputs have one class exactly when every trace has as many dealings under the one as under the other,
-- and a class is named by its least input.
pub record Classed (p : Protocol) (c : Certificate) : Type 0 where
  pub alike : (b d : ℕ) → b < inputs p → d < inputs p → class c b ≡ class c d ↔ ((t : Trace) → dealings p b t ≡ dealings p d t)
  pub named : (b : ℕ) → b < inputs p → class c (class c b) ≡ class c b
  pub least : (b d : ℕ) → b < inputs p → d < inputs p → class c d ≡ class c b → class c b ≤ d

abbrev pub Classes : Type 0
Classes =
    (p : Protocol) → LawfulProtocol p → (bench : ℕ) (c : Certificate) → certify p bench ≡ Ok c → Classed p c

-- every dealing yields the function's value
abbrev pub Correct : Protocol → Type 0
Correct p =
    (b : ℕ) → b < inputs p → (draws : List ℕ) (k : ℕ) (r : Run) → advanced k p (begun p b draws) ≡ Some r → r.draws ≡ []
    → is_result (action_at p r.line) ≡ true → given p.deck r.cards (action_at p r.line) ≡ bit_reading (value p b)

-- nothing is reached by different numbers of draw lists under two inputs that must look alike
abbrev pub Secret : Protocol → Type 0
Secret p =
    (b d : ℕ) → b < inputs p → d < inputs p → must_look_alike p b d ≡ true → (l : ℕ) (t : Trace) → reached p b l t ≡ reached p d l t

-- A protocol whose tree is built is certified exactly when it is correct and secret.
abbrev pub CertifiedExactly : Type 0
CertifiedExactly =
    (p : Protocol) → LawfulProtocol p → (bench : ℕ) (c : Certificate) → certify p bench ≡ Ok c → faultless c ≡ true ↔ (Correct p × Secret p)

-- Table and machine: after any list of calls a table that is running or ended has the line and the cards of the
-- machine's run for the input laid, and the bytes it has written are that run's trace, after as many steps of the
-- machine as step and turn calls were granted, on the draws granted at shuffle lines. The other bytes of the record are
-- as they were.
pub record Follows (p : Protocol) (bytes : List ℕ) (g : Granted) (s : Session) (x : ℕ) (r : Run) : Type 0 where
  pub laid : g.laid ≡ x ∷ []
  pub input : x < inputs p
  pub run : advanced g.moves p (begun p x g.draws) ≡ Some r
  pub spent : r.draws ≡ []
  pub line : s.table.line ≡ r.line
  pub cards : s.table.cards ≡ r.cards
  pub written : s.table.written ≡ length (bytes_of r.trace)
  pub trace : s.bytes ≡ bytes_of r.trace ++ drop s.table.written bytes
  pub long : length s.bytes ≡ length bytes

abbrev pub TableAndMachine : Type 0
TableAndMachine =
    (p : Protocol) (bytes : List ℕ) (calls : List Call) → ((session p empty_table bytes calls).table.phase ≢ empty)
    → (x : ℕ) × (r : Run) × Follows p bytes (granted p empty_table bytes calls) (session p empty_table bytes calls) x r

-- Any list of calls: two inputs of one class and one value get any given answers and record from equally many
-- fillings of the draws. Where no finish is granted, one class is enough.
abbrev pub Undistinguished : Protocol → Certificate → Type 0
Undistinguished p c =
    (b d : ℕ) → b < inputs p → d < inputs p → class c b ≡ class c d → value p b ≡ value p d
    → (bytes : List ℕ) (plan : List Planned) (test : List Answer → List ℕ → Bool)
    → fillings p b d bytes plan test ≡ fillings p d b bytes plan test

abbrev pub UndistinguishedBeforeFinish : Protocol → Certificate → Type 0
UndistinguishedBeforeFinish p c =
    (b d : ℕ) → b < inputs p → d < inputs p → class c b ≡ class c d
    → (bytes : List ℕ) (plan : List Planned) (test : List Answer → List ℕ → Bool)
    → ((answers : List Answer) (final : List ℕ) → finishes answers ≡ true → test answers final ≡ false)
    → fillings p b d bytes plan test ≡ fillings p d b bytes plan test

-- Each finish that is granted gives the function's value of the input laid.
abbrev pub FinishesRight : Protocol → Type 0
FinishesRight p =
    (bytes : List ℕ) (calls : List Call) (output : ℕ) → Has (session p empty_table bytes calls).answers (finished output)
    → (x : ℕ) × ((granted p empty_table bytes calls).laid ≡ x ∷ []) × (x < inputs p) × (output ≡ value p x)

-- All that is promised of a certified protocol.
pub record Promise (p : Protocol) (c : Certificate) : Type 0 where
  pub classes : Classed p c
  pub calls : Undistinguished p c
  pub before_finish : UndistinguishedBeforeFinish p c
  pub finish : FinishesRight p

abbrev pub Kept : Type 0
Kept = (p : Protocol) → LawfulProtocol p → (bench : ℕ) (c : Certificate) → Certified p bench c → Promise p c
