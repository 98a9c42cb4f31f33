use Rattle.table.proofs.Dealing.{laid_input}
use Rattle.table.proofs.table.Table.lay.Goals as goal

pub returns-in_ok-cards-in-Empty-default-clause-reply : goal.returns-in_ok-cards-in-Empty-default-clause-reply
returns-in_ok-cards-in-Empty-default-clause-reply g c =
    laid_input c.args.self.now (g.D.Deck.means c.args.deck.now) c.args.commitment.number _ c.in-Empty-default.is-0
    (rw (c.script-in-Empty-default.ensures, c.spent.ensures, c.in_ok-cards-in-Empty-default.ensures.ok_part) at c.lay_cards.ensures)
