use Rattle.std.proofs.Common.{ℕ, get_or, ap, ◌∙◌}
use Rattle.cards.specs.Rows.{carried, packed}
use Rattle.cards.proofs.Moves.{carried_same}
use Rattle.protocol.specs.States.{Row}
use Rattle.rows.proofs.mix.moved.Goals as goal

pub returns-clause-value : goal.returns-clause-value
returns-clause-value c =
    λ m d h.
    let same = carried_same (λ (s : ℕ). get_or c.args.images s 0) (m.sends d) c.cards.result.cards (λ i l. h i (rw c.cards.ensures at l)) in
    ap (λ (x : ℕ). let r : Row = record { sequence = x; weights = c.args.row.now.weights } in r)
    (c.pack.ensures.value ∙ ap (packed c.args.cards) (c.moved.ensures.value ∙ same ∙ ap (carried (m.sends d)) c.cards.ensures))
