use Rattle.std.proofs.Common.{◌≡◌, ℕ, ◌+◌, ◌<◌, take, drop}
use Rattle.protocol.specs.Machine.{Mixing}
use Rattle.protocol.specs.States.{total_of, joined_after}
use Rattle.rows.specs.Views.{rows_view, Sends}
use Rattle.rows.proofs.Standing.{Standing}
use Rattle.rows.proofs.state.State.join_each.Given as goal

abbrev pub invariant-loop-row : goal.invariant-loop-row
invariant-loop-row l =
    Standing l.len l.room l.initial.room
    × ((b : ℕ) → b < 8 → total_of b (rows_view (drop l.row-index l.self.rows.now)) + total_of b (rows_view (take l.len l.room)) ≡ total_of b (rows_view l.self.rows.now) + total_of b (rows_view (take l.initial.len l.initial.room)))
    × ((m : Mixing) (d : ℕ) → Sends l.images m d → joined_after l.self.cards m d (rows_view (drop l.row-index l.self.rows.now)) (rows_view (take l.len l.room)) ≡ joined_after l.self.cards m d (rows_view l.self.rows.now) (rows_view (take l.initial.len l.initial.room)))
