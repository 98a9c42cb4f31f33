use Rattle.std.proofs.Common.{◌≡◌, replicate}
use lib.Seq.{paste}
use Rattle.protocol.specs.States.{shows}
use Rattle.rows.specs.Views.{row_view}
use Rattle.rows.proofs.turn.Turned.shown.Given as goal

abbrev pub invariant-loop-i : goal.invariant-loop-i
invariant-loop-i l = l.marks ≡ paste (replicate 12 0) 0 (shows l.self.state.cards l.self.places.now (row_view l.row)) l.i
