-- How a node is read: what the code's plain values stand for in a protocol.
use Rattle.std.specs.Prelude.{◌≡◌, ℕ, Bool, not, ◌&&◌, List, Some, None, Option, nat_lt, slice_index}
use Rattle.std.specs.List.{find, range_with_len}
use Rattle.std.specs.Option.{option_map}
use Rattle.cards.specs.Decks.{bit, bit_reading}
use Rattle.cards.specs.declared.reading.Reading.{Reading}
use Rattle.heads.specs.declared.head.Output.{Output}
use Rattle.heads.specs.declared.head.Output.TheVariants as head
use Rattle.script.specs.Model as model
use Rattle.script.specs.Model.{Action, committed, opened}
use Rattle.protocol.specs.Machine.{Protocol}
use Rattle.protocol.specs.States.{Row, Wrong, same_reading}
use Rattle.rows.specs.declared.outcome.Outcome.{Outcome}
use Rattle.rows.specs.declared.outcome.Outcome.TheVariants.{Committed, Opened}
use Rattle.rows.specs.declared.outcome.Wrong as code
use Rattle.rows.specs.Views.{row_view}

-- what a result line does
abbrev pub action_of : Outcome → Action
action_of (Committed left right) = committed left.number right.number
action_of (Opened value) = opened value

-- the output that a head names
abbrev pub output_of : Output → model.Output
output_of head.Committed = model.committed_output
output_of head.Open = model.open_output

abbrev pub wrong_view : Option code.Wrong → Option Wrong
wrong_view None = None
wrong_view (Some w) = Some (record { row = row_view w.row; input = w.input; reading = w.reading })

-- A protocol for so many players that computes this function.
pub record Computes (p : Protocol) (players function : ℕ) : Type 0 where
  pub players_are : p.script.players ≡ players
  pub function_is : p.script.function ≡ function

-- a positive weight under an input at which this reading is not the function's value
abbrev pub strays : ℕ → Reading → List ℕ → ℕ → Bool
strays function reading weights b = nat_lt 0 (slice_index weights b) && not (same_reading reading (bit_reading (bit function b)))

-- the first of so many inputs at which the row strays
abbrev pub first_stray : ℕ → ℕ → Reading → Row → Option Wrong
first_stray function inputs reading r =
    option_map (λ b. record { row = r; input = b; reading = reading }) (find (strays function reading r.weights) (range_with_len 0 inputs))
