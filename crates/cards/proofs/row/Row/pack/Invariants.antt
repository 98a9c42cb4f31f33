use Rattle.std.proofs.Common.{◌≡◌, ◌+◌, ◌*◌, ◌^◌, ◌≤◌}
use Rattle.cards.specs.Rows.{packed}
use Rattle.cards.proofs.row.Row.pack.Given as goal

abbrev pub invariant-loop-card : goal.invariant-loop-card
invariant-loop-card l = (l.number ≡ packed l.card-index l.card-items) × (l.number + 17 ≤ 17 * 16 ^ l.card-index)
