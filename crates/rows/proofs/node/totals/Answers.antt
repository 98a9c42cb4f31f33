use Rattle.std.proofs.Common.{◌≡◌, ℕ, ◌+◌, List, get_or, take, ap, ◌∙◌, arith}
use Rattle.protocol.specs.States.{total_of}
use Rattle.rows.specs.declared.row.Row as code
use Rattle.rows.specs.Views.{rows_view}
use Rattle.rows.proofs.Runs.{past}
use Rattle.rows.proofs.Totals.{total_more, total_take_le, table_at}
use Rattle.rows.proofs.node.totals.Goals as goal

pub add-requires : goal.add-requires
add-requires c =
    λ b h.
    let rows : List code.Row = c.args.rows.now in
    let i : ℕ = c.loop-row.row-index in
    let a : get_or c.loop-row.totals b 0 ≡ total_of b (rows_view (take i rows)) = ap (λ (xs : List ℕ). get_or xs b 0) c.loop-row.invariant ∙ table_at (λ k. total_of k (rows_view (take i rows))) 8 b h in
    let m = total_more rows i past b c.loop-row-test.true in
    let t = total_take_le rows (i + 1) b in
    let s = c.requires b h in
    omega arith
