use Rattle.std.proofs.Common.{◌≡◌, ℕ, cond, eqb, set, ap, ◌∙◌}
use Rattle.cards.specs.Lists.{table}
use Rattle.rows.proofs.Starts.{zeros, unit_weights, unit_is}
use Rattle.rows.proofs.start.unit.Goals as goal

pub returns : goal.returns
returns g c =
    let w : set zeros c.from.result 1 ≡ table 8 (λ b. cond (eqb b c.args.input) 1 0) =
    ap (λ (i : ℕ). set zeros i 1) c.from.ensures ∙ unit_weights c.args.input c.requires.input in
    record {
      weights = w;
      value = λ p players h.
          unit_is p players c.args.codes.now (g.D.Deck.means c.args.deck.now) h c.args.input (record { sequence = c.pack.result; weights = set zeros c.from.result 1 }) c.lay.result.cards c.lay.ensures c.pack.ensures.value w;
    }
