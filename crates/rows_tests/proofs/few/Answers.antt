use Rattle.std.proofs.Common.{◌≡◌, List, take, ap, arith}
use Rattle.std.proofs.lemmas.List.{take_all}
use Rattle.protocol.specs.States.{total_of}
use Rattle.rows.specs.declared.row.Row as code
use Rattle.rows.specs.Views.{rows_view}
use Rattle.rows.proofs.Runs.{past}
use Rattle.rows.proofs.Totals.{total_more}
use Rattle.rows_tests.proofs.few.Goals as goal

pub loop-row-preserved : goal.loop-row-preserved
loop-row-preserved c =
    λ b h.
    let a = c.loop-row.invariant b h in
    let m = total_more c.args.rows.now c.loop-row.row-index past b c.loop-row-test.true in
    let l = c.light.ensures c.if-not-light.false b h in
    omega arith

pub returns : goal.returns
returns c =
    λ e b h.
    let a = c.loop-row.invariant b h in
    let m : total_of b (rows_view (take c.loop-row.row-index c.args.rows.now)) ≡ total_of b (rows_view c.args.rows.now) = ap (λ (xs : List code.Row). total_of b (rows_view xs)) (take_all c.loop-row.row-index c.args.rows.now c.loop-row-test.false) in
    omega arith
