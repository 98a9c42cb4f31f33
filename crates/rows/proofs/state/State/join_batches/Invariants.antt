use Rattle.std.proofs.Common.{◌≡◌, ℕ, ◌+◌, ◌<◌, drop}
use Rattle.protocol.specs.Machine.{Mixing}
use Rattle.protocol.specs.States.{total_of, joined_after}
use Rattle.rows.specs.Views.{rows_view, Sends}
use Rattle.rows.specs.Batches.{held_state}
use Rattle.rows.proofs.Asides.{Growing}
use Rattle.rows.proofs.state.State.join_batches.Given as goal

abbrev pub invariant-loop-row : goal.invariant-loop-row
invariant-loop-row l =
    Growing l.len l.end l.room l.initial.room
    × ((b : ℕ) → b < 8 → total_of b (rows_view (drop l.row-index l.self.rows.now)) + total_of b (held_state l.len l.end l.room) ≡ total_of b (rows_view l.self.rows.now) + total_of b (held_state l.initial.len l.initial.end l.initial.room))
    × ((m : Mixing) (d : ℕ) → Sends l.images m d → joined_after l.self.cards m d (rows_view (drop l.row-index l.self.rows.now)) (held_state l.len l.end l.room) ≡ joined_after l.self.cards m d (rows_view l.self.rows.now) (held_state l.initial.len l.initial.end l.initial.room))
