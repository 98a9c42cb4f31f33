use Rattle.std.proofs.Common.{◌≡◌, ℕ, take}
use Rattle.cards.specs.Lists.{table}
use Rattle.protocol.specs.States.{total_of}
use Rattle.rows.specs.Views.{rows_view}
use Rattle.rows.proofs.node.totals.Given as goal

abbrev pub invariant-loop-row : goal.invariant-loop-row
invariant-loop-row l = l.totals ≡ table 8 (λ (b : ℕ). total_of b (rows_view (take l.row-index l.rows)))
