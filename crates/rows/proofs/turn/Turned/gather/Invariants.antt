use Rattle.std.proofs.Common.{length, take}
use Rattle.protocol.specs.States.{is_shown}
use Rattle.rows.proofs.Gathered.{Copied}
use Rattle.rows.proofs.turn.Turned.gather.Given as goal

abbrev pub invariant-loop-row : goal.invariant-loop-row
invariant-loop-row l =
    Copied (is_shown l.self.state.cards l.self.places.now (take (length l.self.places.now) l.marks)) l.self.state.rows.now l.row-index l.len l.room l.initial.room
