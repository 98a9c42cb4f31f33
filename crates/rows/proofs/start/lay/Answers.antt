use Rattle.std.proofs.Common.{ℕ, cond, ltb, length, get_or, rules}
use Rattle.rows.proofs.Made.{made_table}
use Rattle.rows.proofs.start.lay.Goals as goal

pub returns : goal.returns
returns g c =
    made_table _ (λ (k : ℕ). cond (ltb k (length c.args.codes.now)) ((g.D.Deck.means c.args.deck.now).card (get_or c.args.codes.now k 0) c.args.input) 0) _
    (λ i y q called. search rules) c.from_fn.result 12 c.from_fn.ensures.items
