use Rattle.std.proofs.Common.{ℕ, List, get_or, set, sym, ap, ◌∙◌, arith, rules}
use Rattle.rows.specs.Views.{rows_view}
use Rattle.rows.proofs.Order.{parted, join_same}
use Rattle.rows.proofs.Runs.{past}
use Rattle.rows.proofs.Totals.{weight_le}
use Rattle.rows.proofs.Holdings.{missing}
use Rattle.rows.proofs.batch.add_same.Goals as goal
use Rattle.rows.proofs.batch.add_same.Goals.{else-at-run-via-then-at-run+else-run-at, else-at-run-via-else-at-run}

pub add-requires : goal.add-requires
add-requires c =
    λ b h.
    let w = weight_le c.args.run.now c.partition_point-at.result past b c.if-at-run.true in
    let s = c.requires.small b h in
    omega arith

pub returns-then-run-at-clause-joined : goal.returns-then-run-at-clause-joined
returns-then-run-at-clause-joined c =
    λ _.
    let p = parted c.args.run.now c.args.row.now.sequence c.partition_point-at.result c.partition_point-at.ensures.partitioned c.requires.ascending (λ a r f k. search rules) in
    sym (join_same c.args.row.now c.args.run.now c.partition_point-at.result past c.if-at-run.true p.below c.if-run-at.true
    ∙ ap (λ (s : List ℕ). rows_view (set c.args.run.now c.partition_point-at.result (record { sequence = (get_or c.args.run.now c.partition_point-at.result past).sequence; weights = s }))) (sym c.add.ensures))

pub returns-clause-none : goal.returns-clause-none
returns-clause-none c =
    λ _.
    let p = parted c.args.run.now c.args.row.now.sequence c.partition_point-at.result c.partition_point-at.ensures.partitioned c.requires.ascending (λ a r f k. search rules) in
    missing c.args.run.now c.args.row.now.sequence c.partition_point-at.result c.requires.ascending p (λ l.
    elim c.else-at-run.branch [
      | else-at-run-via-then-at-run+else-run-at w ↦ w.if-run-at.false
      | else-at-run-via-else-at-run w ↦ absurd (let f = w.if-at-run.false in omega arith)
    ])
