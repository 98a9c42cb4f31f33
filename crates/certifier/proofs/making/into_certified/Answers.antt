use Rattle.certifier.proofs.Lawfully.{lawful_playing}
use Rattle.certifier.proofs.making.into_certified.Goals as goal

pub new-requires : goal.new-requires
new-requires g c =
    ∣ (
      g.D.Deck.means c.args.deck.now,
      g.B.Bank.at c.args.bank.now,
      record {
        lawful = lawful_playing c.args.script (g.D.Deck.means c.args.deck.now) (g.B.Bank.at c.args.bank.now) (g.met.D.Deck.lawful c.args.deck.now) (g.met.B.Bank.lawful c.args.bank.now);
        bench = c.requires.0;
        certificate = _;
        certified = c.requires.1;
      },
    ) ∣₁
