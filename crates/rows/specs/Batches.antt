-- Rows held back behind a run, to be put into it together.
use Rattle.std.specs.Prelude.{◌≡◌, ℕ, ◌-◌, ◌<◌, ◌≤◌, List, [], ◌∷◌, length, take, drop, Option, MatchOption}
use Rattle.protocol.specs.States.{Row, join, Ascending}
use Rattle.rows.specs.declared.row.Row as code
use Rattle.rows.specs.Views.{rows_view, sequence_at}

-- a state after each of the rows has been joined to it, the first row first
abbrev pub all_joined : List Row → List Row → List Row
all_joined [] state = state
all_joined (r ∷ rs) state = all_joined rs (join r state)

-- Two lists of rows that have no sequence in common.
pub record Apart (xs ys : List code.Row) : Type 0 where
  pub apart : (i j : ℕ) → i < length xs → j < length ys → sequence_at xs i ≡ sequence_at ys j → ⊥

-- A run of rows, and an ascending batch of others right behind it, which ends at the second number.
pub record Holding (len end : ℕ) (room : List code.Row) : Type 0 where
  pub order : len ≤ end
  pub within : end ≤ length room
  pub run : Ascending (rows_view (take len room))
  pub held : Ascending (rows_view (take (end - len) (drop len room)))
  pub apart : Apart (take len room) (take (end - len) (drop len room))

-- the state that the run and the batch stand for
abbrev pub held_state : ℕ → ℕ → List code.Row → List Row
held_state len end room = all_joined (rows_view (take (end - len) (drop len room))) (rows_view (take len room))

-- A state stands in the room as a run and a batch, with nothing written past the end.
pub record Held (len end : ℕ) (state : List Row) (before after : List code.Row) : Type 0 where
  pub holding : Holding len end after
  pub state_is : held_state len end after ≡ state
  pub rest : drop end after ≡ drop end before

abbrev pub PutAside : Option ℕ → ℕ → ℕ → List Row → List code.Row → List code.Row → Type 0
PutAside answer len end state before after =
    MatchOption answer (length before < length state) (λ m. (end ≤ m) × Held len m state before after)
