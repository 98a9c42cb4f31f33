use Rattle.std.proofs.Common.{rules, refl, ◌∙◌}
use Rattle.rows.specs.Nodes.{action_of, wrong_view}
use Rattle.rows.specs.Views.{row_view, rows_view}
use Rattle.rows.proofs.Found.{found_first}
use Rattle.rows.proofs.Runs.{past}
use Rattle.rows.proofs.Wrongs.{wrong_in, rows_wrong, wrongness_is}
use Rattle.rows.proofs.node.first_wrong.Goals as goal

pub returns : goal.returns
returns g c =
    λ p l h n d a.
    let deck = g.D.Deck.means c.args.deck.now in
    let m = c.find_map.ensures.runs in
    found_first _ _ wrong_view (wrong_in p (action_of c.args.outcome) c.args.head.now.players c.args.head.now.function c.args.head.now.cards deck h n d) (λ x o q k. search rules)
    (λ w. record { row = row_view w.row; input = w.input; reading = w.reading }) past c.args.rows.now c.find_map.result m.0 refl (λ w. refl) (rw (m.1, c.iter.ensures.rest) at (c.iter.ensures.runs m.0 m.0.seen)) m.2
    ∙ rows_wrong p (action_of c.args.outcome) c.args.head.now.players c.args.head.now.function c.args.head.now.cards deck h n d c.args.rows.now
    ∙ wrongness_is p l c.args.outcome (rows_view c.args.rows.now) a
