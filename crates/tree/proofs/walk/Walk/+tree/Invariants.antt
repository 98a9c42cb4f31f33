use Rattle.std.proofs.Common.{◌+◌, ◌-◌, ◌*◌, length}
use Rattle.protocol.specs.States.{children}
use Rattle.rows.specs.Turns.{rows_after}
use Rattle.rows.specs.Views.{rows_view}
use Rattle.sheet.specs.Scripts.{branches_of}
use Rattle.sheet.specs.Sheets.{script}
use Rattle.tree.specs.Walks.{playing, Kept}
use Rattle.tree.proofs.Turning.{Turned}
use Rattle.tree.proofs.walk.Walk.+tree.Given as goal

abbrev pub decreases-below : goal.decreases-below
decreases-below g l = 8 * (256 - l.line) + 2

abbrev pub decreases-below_marks : goal.decreases-below_marks
decreases-below_marks g l = 8 * (256 - l.line) + 5

abbrev pub decreases-below_turn : goal.decreases-below_turn
decreases-below_turn g l = 8 * (256 - l.line) + 1

abbrev pub decreases-enter : goal.decreases-enter
decreases-enter g l = 8 * (256 - l.line) + 4

abbrev pub decreases-grow : goal.decreases-grow
decreases-grow g l = 8 * (256 - l.line) + 3

abbrev pub invariant-below_turn-loop-marks : goal.invariant-below_turn-loop-marks
invariant-below_turn-loop-marks g l =
    record {
      turned : Turned g.V.Visitor.visits (playing l.initial.self.script.now (g.D.Deck.means l.initial.self.deck.now) (g.B.Bank.at l.initial.self.bank.now)) l.node l.line (rows_view l.rows) (branches_of (length l.places) l.branches) (length l.initial.rest) l.initial.self.trace.items
          (children (script l.initial.self.script.now).cards l.places (rows_view l.rows)) l.initial.self.nodes l.initial.self.visitor.now
          (children (script l.initial.self.script.now).cards l.places (rows_after (script l.initial.self.script.now).cards l.places l.last (rows_view l.rows))) l.self.nodes l.self.visitor.now;
      kept : Kept l.initial.self l.self;
    }

abbrev pub decreases-below_turn-loop-marks : goal.decreases-below_turn-loop-marks
decreases-below_turn-loop-marks g l = length (children (script l.initial.self.script.now).cards l.places (rows_after (script l.initial.self.script.now).cards l.places l.last (rows_view l.rows)))
