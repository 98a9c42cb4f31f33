use Rattle.std.proofs.Common.{ℕ, pred, map, get_or, rules, ap, ◌∙◌}
use Rattle.rows.proofs.Made.{made_table}
use Rattle.rows.proofs.Totals.{table_at}
use Rattle.line_parts.proofs.images.images_of.Goals as goal

pub returns : goal.returns
returns c =
    λ s h.
    ap (λ xs. get_or xs s 0) (made_table _ (λ (s : ℕ). get_or (map pred c.args.places.now) s s) _ (λ i y q called. search rules) c.from_fn.result 12 c.from_fn.ensures.items)
    ∙ table_at (λ (s : ℕ). get_or (map pred c.args.places.now) s s) 12 s h
