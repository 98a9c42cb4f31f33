use Rattle.std.proofs.Common.{◌≡◌, ℕ, ◌^◌, ◌<◌, List, take, sym, ap, ◌∙◌, subst, arith}
use Rattle.protocol.specs.States.{Row, started}
use Rattle.rows.specs.Views.{row_view, rows_view}
use Rattle.rows.proofs.Standing.{standing_join, written_standing}
use Rattle.rows.proofs.Starts.{started_room, started_next, unit_total, counted}
use Rattle.rows.proofs.start.start.Goals as goal

pub unit-row-requires-clause-input : goal.unit-row-requires-clause-input
unit-row-requires-clause-input g c =
    let k = counted c.args.players c.count_inputs-input-end.result c.requires.players c.count_inputs-input-end.ensures in
    omega (arith, c.loop-input-test.true)

pub returns-in_err-len-clause-put : goal.returns-in_err-len-clause-put
returns-in_err-len-clause-put g c =
    λ p h.
    let k = counted c.args.players c.count_inputs-input-end.result c.requires.players c.count_inputs-input-end.ensures in
    let l : c.loop-input.input < 2 ^ p.script.players = subst (λ (k : ℕ). c.loop-input.input < 2 ^ k) (sym h.players_are) (omega (arith, c.loop-input-test.true)) in
    let more = started_room p c.loop-input.input (2 ^ p.script.players) (row_view c.unit-row.result) (rows_view (take c.loop-input.len c.loop-input.room)) l (c.unit-row.ensures.value p c.args.players h) (c.loop-input.invariant.2 p h) in
    let f = c.in_err-len.ensures.put in
    let long = c.loop-input.invariant.0.long in
    rw c.from_residual.ensures (omega arith)

pub loop-input-preserved : goal.loop-input-preserved
loop-input-preserved g c =
    let w = c.in_ok-len.ensures.put in
    let r : Row = row_view c.unit-row.result in
    let S : List Row = rows_view (take c.loop-input.len c.loop-input.room) in
    let T : List Row = rows_view (take c.in_ok-len.len c.join.new.rows) in (
      standing_join c.loop-input.len c.in_ok-len.len c.loop-input.room c.args.room.now c.join.new.rows r c.loop-input.invariant.0 c.join.auto.rows w,
      (λ b l. unit_total b c.loop-input.input r S T l c.unit-row.ensures.weights (c.loop-input.invariant.1 b l) w.here),
      λ p h. started_next p c.loop-input.input r S T (c.unit-row.ensures.value p c.args.players h) (c.loop-input.invariant.2 p h) w.here,
    )

pub returns-clause-put : goal.returns-clause-put
returns-clause-put g c =
    λ p h.
    let k = counted c.args.players c.count_inputs-input-end.result c.requires.players c.count_inputs-input-end.ensures in
    let all : c.loop-input.input ≡ 2 ^ c.args.players = (let i = c.loop-input.auto.input-end in let l = c.loop-input-test.false in omega arith) in
    written_standing c.loop-input.len c.loop-input.room c.args.room.now _ c.loop-input.invariant.0
    (c.loop-input.invariant.2 p h ∙ ap (started p) (all ∙ ap (λ (k : ℕ). 2 ^ k) (sym h.players_are)))
