use Rattle.std.proofs.Common.{◌≡◌, ◌++◌, List, [], length, take, drop, sym, ap, ◌∙◌, arith}
use Rattle.std.proofs.lemmas.List.{drop_all}
use Rattle.protocol.specs.States.{Row, join, total_of, joined_after}
use Rattle.rows.specs.declared.row.Row as code
use Rattle.rows.specs.Views.{row_view, rows_view}
use Rattle.rows.specs.Batches.{held_state}
use Rattle.rows.proofs.Standing.{next_state, next_total, next_longer}
use Rattle.rows.proofs.Holdings.{cut_holding}
use Rattle.rows.proofs.Asides.{growing_held, put_in_written}
use Rattle.rows.proofs.state.State.join_batches.Goals as goal

pub returns-in_err-end-clause-put : goal.returns-in_err-end-clause-put
returns-in_err-end-clause-put c =
    λ m d h.
    let g = c.loop-row.invariant.0.long in
    let start = c.batch_start-len.ensures c.args.room.now c.requires.within c.requires.ascending in
    let S : List Row = held_state c.loop-row.len c.loop-row.end c.loop-row.room in
    let k = next_longer c.args.self.now.rows.now c.loop-row.row-index c.loop-row-test.true c.moved-row.result S c.args.self.now.cards m d (c.moved-row.ensures.value m d h) in
    let e = ap length (c.loop-row.invariant.2 m d h ∙ ap (joined_after c.args.self.now.cards m d (rows_view c.args.self.now.rows.now)) start.state_is) in
    let j = ap (λ (xs : List Row). length (join (row_view c.moved-row.result) xs)) c.make_way-len.ensures.held.state_is in
    let f = c.in_err-end.ensures.put in
    let a = c.make_way-len.auto.room in
    rw c.from_residual.ensures (omega arith)

pub loop-row-preserved : goal.loop-row-preserved
loop-row-preserved c =
    let w = c.in_ok-end.ensures.put in
    let way = c.make_way-len.ensures.held in
    let rows : List code.Row = c.args.self.now.rows.now in
    let S : List Row = held_state c.loop-row.len c.loop-row.end c.loop-row.room in
    let T : List Row = held_state c.make_way-len.result c.in_ok-end.end c.put_aside.new.room in
    let e : T ≡ join (row_view c.moved-row.result) S = w.1.state_is ∙ ap (join (row_view c.moved-row.result)) way.state_is in
    let g = growing_held c.loop-row.len c.loop-row.end c.make_way-len.result c.loop-row.end c.loop-row.room c.args.room.now c.make_way-len.new.room _ c.loop-row.invariant.0 c.make_way-len.auto.room (omega arith) way in (
      growing_held c.make_way-len.result c.loop-row.end c.make_way-len.result c.in_ok-end.end c.make_way-len.new.room c.args.room.now c.put_aside.new.room _ g c.put_aside.auto.room w.0 w.1,
      (λ b h.
          let a = c.loop-row.invariant.1 b h in
          let t = next_total rows c.loop-row.row-index c.loop-row-test.true c.moved-row.result S T e b h c.moved-row.ensures.weights in
          omega arith),
      λ m d h.
          next_state rows c.loop-row.row-index c.loop-row-test.true c.moved-row.result S T e c.args.self.now.cards m d (c.moved-row.ensures.value m d h)
          ∙ c.loop-row.invariant.2 m d h,
    )

pub settle-requires : goal.settle-requires
settle-requires c = record { holding = cut_holding c.loop-row.len c.loop-row.end c.loop-row.room c.loop-row.invariant.0.holding }

pub returns-clause-put : goal.returns-clause-put
returns-clause-put c =
    λ m d h.
    let g = c.loop-row.invariant.0 in
    let start = c.batch_start-len.ensures c.args.room.now c.requires.within c.requires.ascending in
    let rows : List code.Row = c.args.self.now.rows.now in
    let S : List Row = held_state c.loop-row.len c.loop-row.end c.loop-row.room in
    let none : drop c.loop-row.row-index rows ≡ [] = drop_all c.loop-row.row-index rows (let f = c.loop-row-test.false in omega arith) in
    let q : S ≡ joined_after c.args.self.now.cards m d (rows_view rows) (rows_view (take c.args.len c.args.room.now)) =
    sym (ap (λ (xs : List code.Row). joined_after c.args.self.now.cards m d (rows_view xs) S) none) ∙ c.loop-row.invariant.2 m d h
    ∙ ap (joined_after c.args.self.now.cards m d (rows_view rows)) start.state_is in
    let w = put_in_written c.loop-row.len c.loop-row.end c.loop-row.room g.holding c.settle.new.rows c.settle.auto.rows c.settle.ensures in
    record {
      count = w.count ∙ ap length q;
      room = (let a = g.long in let b = w.room in omega arith);
      here = w.here ∙ q;
      rest = w.rest ∙ g.rest;
    }

pub returns-clause-totals : goal.returns-clause-totals
returns-clause-totals c =
    λ end b e l.
    let start = c.batch_start-len.ensures c.args.room.now c.requires.within c.requires.ascending in
    let rows : List code.Row = c.args.self.now.rows.now in
    let S : List Row = held_state c.loop-row.len c.loop-row.end c.loop-row.room in
    let after : List code.Row = c.settle.new.rows ++ drop c.loop-row.end c.loop-row.room in
    let w = put_in_written c.loop-row.len c.loop-row.end c.loop-row.room c.loop-row.invariant.0.holding c.settle.new.rows c.settle.auto.rows c.settle.ensures in
    let same : c.loop-row.end ≡ end = cc in
    let t : total_of b (rows_view (take end after)) ≡ total_of b S = ap (λ n. total_of b (rows_view (take n after))) (sym same) ∙ ap (total_of b) w.here in
    let none : drop c.loop-row.row-index rows ≡ [] = drop_all c.loop-row.row-index rows (let f = c.loop-row-test.false in omega arith) in
    let z : total_of b (rows_view (drop c.loop-row.row-index rows)) ≡ 0 = ap (λ (xs : List code.Row). total_of b (rows_view xs)) none in
    let s : total_of b (held_state c.batch_start-len.result c.args.len c.args.room.now) ≡ total_of b (rows_view (take c.args.len c.args.room.now)) = ap (total_of b) start.state_is in
    let a = c.loop-row.invariant.1 b l in
    omega arith
