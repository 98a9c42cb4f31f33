use Rattle.std.proofs.Common.{◌≡◌, length, drop, None}
use Rattle.rows.specs.Views.{rows_view}
use Rattle.rows.proofs.Children.{pick, held}
use Rattle.rows.proofs.turn.Turned.next_marks.Given as goal

abbrev pub invariant-loop-row : goal.invariant-loop-row
invariant-loop-row l =
    pick l.self.state.cards l.self.places.now (held l.self.state.cards l.self.places.now (length l.self.places.now) l.last) (held l.self.state.cards l.self.places.now (length l.self.places.now) l.least) (rows_view (drop l.row-index l.self.state.rows.now))
    ≡ pick l.self.state.cards l.self.places.now (held l.self.state.cards l.self.places.now (length l.self.places.now) l.last) None (rows_view l.self.state.rows.now)
