use Rattle.std.proofs.Common.{◌≡◌, ℕ, ◌*◌, ◌<◌, take}
use Rattle.protocol.specs.Machine.{Protocol, shuffling}
use Rattle.protocol.specs.States.{total_of, mixed_by}
use Rattle.rows.specs.Views.{rows_view, Shuffles}
use Rattle.rows.proofs.Standing.{Standing}
use Rattle.rows.proofs.state.State.shuffle.Given as goal

abbrev pub invariant-loop-draw : goal.invariant-loop-draw
invariant-loop-draw g l =
    Standing l.len l.room l.initial.room
    × ((b : ℕ) → b < 8 → total_of b (rows_view (take l.len l.room)) ≡ l.draw * total_of b (rows_view l.self.rows.now))
    × ((p : Protocol) (next : ℕ) → Shuffles p l.self.cards l.line (g.B.Bank.at l.bank l.line) → rows_view (take l.len l.room) ≡ mixed_by l.self.cards (shuffling p l.line l.total next) (rows_view l.self.rows.now) l.draw)
