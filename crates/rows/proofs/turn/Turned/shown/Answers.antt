use Rattle.std.proofs.Common.{◌≡◌, ◌≤◌, length, ap, ◌∙◌, arith}
use Rattle.std.proofs.ByRecursion.{All-get_or}
use Rattle.protocol.specs.Machine.{card_at}
use Rattle.protocol.specs.States.{cards_of}
use Rattle.rows.specs.Views.{row_view}
use Rattle.rows.proofs.Showing.{mark_set, marks_first, none_after}
use Rattle.rows.proofs.turn.Turned.shown.Goals as goal

pub at-requires : goal.at-requires
at-requires c =
    let p = All-get_or (λ p. (1 ≤ p) × (p ≤ c.args.self.now.state.cards)) c.args.self.now.places.now c.loop-i.i 0 (omega arith) c.args.self.now.inside in
    (p.0, omega (arith, p.1, c.args.self.now.state.few_cards))

pub loop-i-preserved : goal.loop-i-preserved
loop-i-preserved c =
    let row = cards_of c.args.self.now.state.cards (row_view c.args.row.now) in
    mark_set row c.args.self.now.places.now c.loop-i.marks c.loop-i.i c.args.self.now.few c.loop-i.invariant c.card.result (omega arith)
    (c.card.ensures ∙ ap (card_at row) c.at.ensures)

pub returns : goal.returns
returns c =
    let row = cards_of c.args.self.now.state.cards (row_view c.args.row.now) in
    let all : c.loop-i.i ≡ length c.args.self.now.places.now = omega arith in
    record {
      shown = marks_first row c.args.self.now.places.now c.loop-i.marks c.loop-i.i c.args.self.now.few c.loop-i.invariant all;
      past = none_after row c.args.self.now.places.now c.loop-i.marks c.loop-i.i c.args.self.now.few c.loop-i.invariant all;
    }
