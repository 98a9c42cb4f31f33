-- The table: a script played out one call at a time, with the machine's own step.
use Rattle.std.specs.Prelude.{ℕ, suc, ◌+◌, ◌-◌, Bool, true, false, cond, List, [], ◌∷◌, ◌++◌, length, take, drop, Some, None, Option, nat_lt}
use Rattle.std.specs.List.{flat_map}
use Rattle.cards.specs.declared.reading.Reading.{Reading}
use Rattle.cards.specs.declared.reading.Reading.TheVariants.{Zero, One, Neither}
use Rattle.script.specs.Model.{Action, permute, shuffle, turn, committed, opened, none}
use Rattle.script.specs.Faults.{Fault}
use Rattle.script.specs.declared.fault.Layer.TheVariants.{Table as table_layer}
use Rattle.protocol.specs.Machine.{Protocol, inputs, action_at, laid, Trace, Run, acted, given, count}

pub data Phase : Type 0 where
  empty : Phase
  running : Phase
  ended : Phase

abbrev pub phase_number : Phase → ℕ
phase_number empty = 0
phase_number running = 1
phase_number ended = 2

-- A table: its phase, the line (0 when empty), the cards, and how many bytes of the record are written.
pub record Table : Type 0 where
  pub phase : Phase
  pub line : ℕ
  pub cards : List ℕ
  pub written : ℕ

abbrev pub empty_table : Table
empty_table = record { phase = empty; line = 0; cards = []; written = 0 }

pub data Call : Type 0 where
  lay : (number : ℕ) → Call
  step : (draw : ℕ) → Call
  turn_up : Call
  finish : Call
  where_now : Call

-- where a table stands
pub record Whereabouts : Type 0 where
  pub phase : Phase
  pub line : ℕ
  pub written : ℕ

pub data Answer : Type 0 where
  -- lay: the line it begins at
  began : (line : ℕ) → Answer
  -- step: the next line
  stepped : (line : ℕ) → Answer
  -- turn: the target line, and the bytes written so far
  turned : (line : ℕ) → (written : ℕ) → Answer
  -- finish: the output bit
  finished : (output : ℕ) → Answer
  stands_at : Whereabouts → Answer
  refused : Fault → Answer

-- a call's answer, and the table and the record after it
pub record Reply : Type 0 where
  pub answer : Answer
  pub table : Table
  pub bytes : List ℕ

-- A refused call changes nothing. Its fault has the table's line, and the place 0.
abbrev pub refuse : Table → List ℕ → ℕ → Reply
refuse t bytes number =
    record {
      answer = refused (record { number = number; layer = table_layer; line = t.line; place = 0 });
      table = t;
      bytes = bytes;
    }

-- a run that stands where the table does, with these draws
abbrev pub run_of : Table → List ℕ → Run
run_of t draws = record { line = t.line; cards = t.cards; trace = []; draws = draws }

-- the bytes of a trace, and the record with these bytes from an index on
abbrev pub bytes_of : Trace → List ℕ
bytes_of trace = flat_map (λ marks. marks) trace

abbrev pub overwritten : List ℕ → ℕ → List ℕ → List ℕ
overwritten bytes at marks = take at bytes ++ (marks ++ drop (at + length marks) bytes)

-- what a step of the machine makes of the table, or the refusal where it stops
abbrev pub after_step : Table → List ℕ → ℕ → Option Run → Reply
after_step t bytes number None = refuse t bytes number
after_step t bytes number (Some r) =
    record {
      answer = stepped r.line;
      table = record { phase = running; line = r.line; cards = r.cards; written = t.written };
      bytes = bytes;
    }

abbrev pub after_turn : Table → List ℕ → ℕ → Option Run → Reply
after_turn t bytes number None = refuse t bytes number
after_turn t bytes number (Some r) =
    record {
      answer = turned r.line (t.written + length (bytes_of r.trace));
      table =
          record {
            phase = running;
            line = r.line;
            cards = r.cards;
            written = t.written + length (bytes_of r.trace);
          };
      bytes = overwritten bytes t.written (bytes_of r.trace);
    }

abbrev pub after_finish : Table → List ℕ → ℕ → Reading → Reply
after_finish t bytes number Neither = refuse t bytes number
after_finish t bytes number Zero =
    record {
      answer = finished 0;
      table = record { phase = ended; line = t.line; cards = t.cards; written = t.written };
      bytes = bytes;
    }
after_finish t bytes number One =
    record {
      answer = finished 1;
      table = record { phase = ended; line = t.line; cards = t.cards; written = t.written };
      bytes = bytes;
    }

-- The calls on a running table, by the action at its line: 28, a line of another kind; 29, a draw not below the total,
-- which is 1 for a permute; 30, fewer record bytes left than marks to write; 31, marks without a branch, or a pair
-- that reads neither.
abbrev pub step_at : Protocol → Table → List ℕ → ℕ → Action → Reply
step_at p t bytes d (permute images next) =
    cond (nat_lt d 1) (after_step t bytes 29 (acted p (run_of t []) (permute images next))) (refuse t bytes 29)
step_at p t bytes d (shuffle total next) = after_step t bytes 29 (acted p (run_of t (d ∷ [])) (shuffle total next))
step_at p t bytes d (turn places branches) = refuse t bytes 28
step_at p t bytes d (committed left right) = refuse t bytes 28
step_at p t bytes d (opened output) = refuse t bytes 28
step_at p t bytes d none = refuse t bytes 28

abbrev pub turn_at : Protocol → Table → List ℕ → Action → Reply
turn_at p t bytes (permute images next) = refuse t bytes 28
turn_at p t bytes (shuffle total next) = refuse t bytes 28
turn_at p t bytes (turn places branches) =
    cond (nat_lt (length bytes - t.written) (length places)) (refuse t bytes 30)
    (after_turn t bytes 31 (acted p (run_of t []) (turn places branches)))
turn_at p t bytes (committed left right) = refuse t bytes 28
turn_at p t bytes (opened output) = refuse t bytes 28
turn_at p t bytes none = refuse t bytes 28

abbrev pub finish_at : Protocol → Table → List ℕ → Action → Reply
finish_at p t bytes (permute images next) = refuse t bytes 28
finish_at p t bytes (shuffle total next) = refuse t bytes 28
finish_at p t bytes (turn places branches) = refuse t bytes 28
finish_at p t bytes (committed left right) =
    after_finish t bytes 31 (given p.deck t.cards (committed left right))
finish_at p t bytes (opened output) = after_finish t bytes 31 (given p.deck t.cards (opened output))
finish_at p t bytes none = refuse t bytes 28

-- Step, turn and finish by the phase: 24 before a lay, 27 after a finish.
abbrev pub when_running : Table → List ℕ → Phase → Reply → Reply
when_running t bytes empty r = refuse t bytes 24
when_running t bytes running r = r
when_running t bytes ended r = refuse t bytes 27

-- Lay: 25 where the table is not empty, 26 where the number is no input.
abbrev pub laid_table : Protocol → Table → List ℕ → ℕ → Reply
laid_table p t bytes number =
    cond (nat_lt number (inputs p))
    (record {
      answer = began 2;
      table = record { phase = running; line = 2; cards = laid p number; written = t.written };
      bytes = bytes;
    })
    (refuse t bytes 26)

abbrev pub lay_at : Protocol → Table → List ℕ → ℕ → Phase → Reply
lay_at p t bytes number empty = laid_table p t bytes number
lay_at p t bytes number running = refuse t bytes 25
lay_at p t bytes number ended = refuse t bytes 25

abbrev pub replied : Protocol → Table → List ℕ → Call → Reply
replied p t bytes (lay number) = lay_at p t bytes number t.phase
replied p t bytes (step d) = when_running t bytes t.phase (step_at p t bytes d (action_at p t.line))
replied p t bytes turn_up = when_running t bytes t.phase (turn_at p t bytes (action_at p t.line))
replied p t bytes finish = when_running t bytes t.phase (finish_at p t bytes (action_at p t.line))
replied p t bytes where_now =
    record {
      answer = stands_at (record { phase = t.phase; line = t.line; written = t.written });
      table = t;
      bytes = bytes;
    }

-- A list of calls: all the answers, and the table and the record at the end.
pub record Session : Type 0 where
  pub answers : List Answer
  pub table : Table
  pub bytes : List ℕ

abbrev pub preceded : Answer → Session → Session
preceded a s = record { answers = a ∷ s.answers; table = s.table; bytes = s.bytes }

unfoldable pub session : Protocol → Table → List ℕ → List Call → Session
session p t bytes [] = record { answers = []; table = t; bytes = bytes }
session p t bytes (c ∷ cs) =
    let r : Reply = replied p t bytes c in preceded r.answer (session p r.table r.bytes cs)

-- A list of calls in which the draws, and the two inputs that are compared, are left open: a step with a draw to be
-- filled in, or another call, where a lay has the own input, the other one, or a number of its own.
pub data Asked : Type 0 where
  lay_own : Asked
  lay_other : Asked
  lay_same : (number : ℕ) → Asked
  ask_turn : Asked
  ask_finish : Asked
  ask_where : Asked

pub data Planned : Type 0 where
  step_drawn : Planned
  asked : Asked → Planned

abbrev pub call_of : ℕ → ℕ → Asked → Call
call_of own other lay_own = lay own
call_of own other lay_other = lay other
call_of own other (lay_same x) = lay x
call_of own other ask_turn = turn_up
call_of own other ask_finish = finish
call_of own other ask_where = where_now

-- how many numbers fill the list: one for each step, granted or not
abbrev pub steps_in : List Planned → ℕ
steps_in [] = 0
steps_in (step_drawn ∷ cs) = suc (steps_in cs)
steps_in (asked a ∷ cs) = steps_in cs

-- the calls, with the own and the other input and the numbers of a filling put in
abbrev pub first_draw : List ℕ → ℕ
first_draw [] = 0
first_draw (d ∷ ds) = d

abbrev pub later_draws : List ℕ → List ℕ
later_draws [] = []
later_draws (d ∷ ds) = ds

abbrev pub filled : ℕ → ℕ → List ℕ → List Planned → List Call
filled own other draws [] = []
filled own other draws (step_drawn ∷ cs) = step (first_draw draws) ∷ filled own other (later_draws draws) cs
filled own other draws (asked a ∷ cs) = call_of own other a ∷ filled own other draws cs

-- How many fillings of a list of calls, on a table opened empty, end with answers and a record that pass the test. A
-- filling gives each step one number from 0 to 65,535.
abbrev pub outcome_passes : Protocol → List ℕ → (List Answer → List ℕ → Bool) → List Call → Bool
outcome_passes p bytes test calls =
    let s : Session = session p empty_table bytes calls in test s.answers s.bytes

unfoldable pub fillings : Protocol → ℕ → ℕ → List ℕ → List Planned → (List Answer → List ℕ → Bool) → ℕ
fillings p own other bytes plan test =
    count 65536 (steps_in plan) (λ draws. outcome_passes p bytes test (filled own other draws plan))

-- a finish was granted
abbrev pub finishes : List Answer → Bool
finishes [] = false
finishes (began l ∷ rest) = finishes rest
finishes (stepped l ∷ rest) = finishes rest
finishes (turned l w ∷ rest) = finishes rest
finishes (finished b ∷ rest) = true
finishes (stands_at w ∷ rest) = finishes rest
finishes (refused f ∷ rest) = finishes rest

-- What a list of calls was granted: the numbers laid, how many steps and turns, and the draws at shuffle lines.
pub record Granted : Type 0 where
  pub laid : List ℕ
  pub moves : ℕ
  pub draws : List ℕ

abbrev pub nothing_granted : Granted
nothing_granted = record { laid = []; moves = 0; draws = [] }

abbrev pub drawn_at : Action → ℕ → List ℕ
drawn_at (permute images next) d = []
drawn_at (shuffle total next) d = d ∷ []
drawn_at (turn places branches) d = []
drawn_at (committed left right) d = []
drawn_at (opened output) d = []
drawn_at none d = []

-- one granted call more, on this table, before what the later calls were granted
abbrev pub grant : Protocol → Table → Call → Granted → Granted
grant p t (lay number) g = record { laid = number ∷ g.laid; moves = g.moves; draws = g.draws }
grant p t (step d) g =
    record { laid = g.laid; moves = suc g.moves; draws = drawn_at (action_at p t.line) d ++ g.draws }
grant p t turn_up g = record { laid = g.laid; moves = suc g.moves; draws = g.draws }
grant p t finish g = g
grant p t where_now g = g

abbrev pub is_granted : Answer → Bool
is_granted (began l) = true
is_granted (stepped l) = true
is_granted (turned l w) = true
is_granted (finished b) = true
is_granted (stands_at w) = true
is_granted (refused f) = false

unfoldable pub granted : Protocol → Table → List ℕ → List Call → Granted
granted p t bytes [] = nothing_granted
granted p t bytes (c ∷ cs) =
    let r : Reply = replied p t bytes c in
    let later : Granted = granted p r.table r.bytes cs in
    cond (is_granted r.answer) (grant p t c later) later
