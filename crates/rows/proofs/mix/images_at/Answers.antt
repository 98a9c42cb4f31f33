use Rattle.std.proofs.Common.{rules, sym, ◌∙◌}
use Rattle.rows.proofs.Fitted.{images_apart}
use Rattle.rows.proofs.Made.{made_table}
use Rattle.rows.proofs.mix.images_at.Goals as goal

pub returns-else-fits : goal.returns-else-fits
returns-else-fits g c =
    made_table _ (λ s. s) _ (λ i y q called. search rules) c.from_fn.result 12 c.from_fn.ensures.items
    ∙ images_apart c.args.cards c.args.total (g.B.Bank.at c.args.bank.now c.args.line) c.args.draw (sym c.requires ∙ c.if-fits.false)
