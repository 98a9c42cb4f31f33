use Rattle.std.proofs.Common.{◌≡◌, ℕ, ◌<◌, cond, ltb, take}
use Rattle.protocol.specs.Machine.{Protocol}
use Rattle.protocol.specs.States.{total_of, started}
use Rattle.rows.specs.Views.{rows_view, Lays}
use Rattle.rows.proofs.Standing.{Standing}
use Rattle.rows.proofs.start.start.Given as goal

abbrev pub invariant-loop-input : goal.invariant-loop-input
invariant-loop-input g l =
    Standing l.len l.room l.initial.room
    × ((b : ℕ) → b < 8 → total_of b (rows_view (take l.len l.room)) ≡ cond (ltb b l.input) 1 0)
    × ((p : Protocol) → Lays p l.players l.codes (g.D.Deck.means l.deck) → rows_view (take l.len l.room) ≡ started p l.input)
