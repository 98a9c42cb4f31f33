use Rattle.std.proofs.Common.{List, length, take, ap, ◌∙◌, arith}
use Rattle.protocol.specs.States.{Row}
use Rattle.rows.specs.declared.row.Row as code
use Rattle.rows.specs.Views.{rows_view}
use Rattle.rows.proofs.Standing.{standing_join, next_state, next_total, next_longer}
use Rattle.rows.proofs.state.State.join_each.Goals as goal

pub returns-in_err-len-clause-put : goal.returns-in_err-len-clause-put
returns-in_err-len-clause-put c =
    λ m d h.
    let s = c.loop-row.invariant.0 in
    let k = next_longer c.args.self.now.rows.now c.loop-row.row-index c.loop-row-test.true c.moved-row.result (rows_view (take c.loop-row.len c.loop-row.room)) c.args.self.now.cards m d (c.moved-row.ensures.value m d h) in
    let e = ap length (c.loop-row.invariant.2 m d h) in
    let f = c.in_err-len.ensures.put in
    let g = s.long in
    rw c.from_residual.ensures (omega arith)

pub loop-row-preserved : goal.loop-row-preserved
loop-row-preserved c =
    let w = c.in_ok-len.ensures.put in
    let rows : List code.Row = c.args.self.now.rows.now in
    let S : List Row = rows_view (take c.loop-row.len c.loop-row.room) in
    let T : List Row = rows_view (take c.in_ok-len.len c.join.new.rows) in (
      standing_join c.loop-row.len c.in_ok-len.len c.loop-row.room c.args.room.now c.join.new.rows _ c.loop-row.invariant.0 c.join.auto.rows w,
      (λ b h.
          let a = c.loop-row.invariant.1 b h in
          let t = next_total rows c.loop-row.row-index c.loop-row-test.true c.moved-row.result S T w.here b h c.moved-row.ensures.weights in
          omega arith),
      λ m d h.
          next_state rows c.loop-row.row-index c.loop-row-test.true c.moved-row.result S T w.here c.args.self.now.cards m d (c.moved-row.ensures.value m d h)
          ∙ c.loop-row.invariant.2 m d h,
    )
