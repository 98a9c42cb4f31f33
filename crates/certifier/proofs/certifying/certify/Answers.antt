use Rattle.std.proofs.Common.{length}
use Rattle.tree.specs.Walks.{playing}
use Rattle.certifier.proofs.Lawfully.{lawful_playing, certification, whole_promise}
use Rattle.certifier.proofs.certifying.certify.Goals as goal

pub returns-clause-certification : goal.returns-clause-certification
returns-clause-certification g c =
    certification (playing c.args.script.now (g.D.Deck.means c.args.deck.now) (g.B.Bank.at c.args.bank.now))
    (lawful_playing c.args.script.now (g.D.Deck.means c.args.deck.now) (g.B.Bank.at c.args.bank.now) (g.met.D.Deck.lawful c.args.deck.now) (g.met.B.Bank.lawful c.args.bank.now))
    (length c.args.bench.now)

pub returns-clause-promise : goal.returns-clause-promise
returns-clause-promise g c =
    whole_promise (playing c.args.script.now (g.D.Deck.means c.args.deck.now) (g.B.Bank.at c.args.bank.now))
    (lawful_playing c.args.script.now (g.D.Deck.means c.args.deck.now) (g.B.Bank.at c.args.bank.now) (g.met.D.Deck.lawful c.args.deck.now) (g.met.B.Bank.lawful c.args.bank.now))
