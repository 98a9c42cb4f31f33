use Rattle.sessions.proofs.calls.make_call.Goals as goal

pub returns-in-Where-clause-made : goal.returns-in-Where-clause-made
returns-in-Where-clause-made g c =
    rw c.in-Where.is (c.whereabouts.ensures (g.D.Deck.means c.args.deck.now) (g.B.Bank.at c.args.bank.now) c.args.record.now)
