use Rattle.std.proofs.Common.{◌≡◌, ℕ, List, take, ap, ◌∙◌, arith}
use Rattle.cards.specs.Shuffles.{ShuffleMeaning}
use Rattle.protocol.specs.Machine.{Mixing, shuffling}
use Rattle.protocol.specs.States.{Row, mixed_by}
use Rattle.rows.specs.Views.{rows_view}
use Rattle.rows.proofs.Fitted.{of_bank, sends_table, sends_bank}
use Rattle.rows.proofs.Draws.{draw_state, draw_total, draw_longer, draw_stands}
use Rattle.rows.proofs.Standing.{written_standing}
use Rattle.rows.proofs.state.State.shuffle.Goals as goal

pub returns-in_err-len-clause-put : goal.returns-in_err-len-clause-put
returns-in_err-len-clause-put g c =
    λ p next h.
    let mix : Mixing = shuffling p c.args.line c.args.total next in
    let m : ShuffleMeaning = g.B.Bank.at c.args.bank.now c.args.line in
    let S : List Row = rows_view (take c.loop-draw.len c.loop-draw.room) in
    let none = c.in_err-len.ensures.put mix c.loop-draw.draw (sends_bank c.images_at-images.result c.args.self.now.cards c.args.line c.args.total m c.loop-draw.draw c.images_at-images.ensures p next h) in
    let k = draw_longer c.args.self.now.cards mix (rows_view c.args.self.now.rows.now) c.loop-draw.draw S c.args.total c.loop-draw-test.true (c.loop-draw.invariant.2 p next h) in
    let long = c.loop-draw.invariant.0.long in
    rw c.from_residual.ensures (omega arith)

pub loop-draw-preserved : goal.loop-draw-preserved
loop-draw-preserved g c =
    let m : ShuffleMeaning = g.B.Bank.at c.args.bank.now c.args.line in
    let own : Mixing = of_bank c.args.self.now.cards c.args.total m in
    let rows : List Row = rows_view c.args.self.now.rows.now in
    let d : ℕ = c.loop-draw.draw in
    let S : List Row = rows_view (take c.loop-draw.len c.loop-draw.room) in
    let T : List Row = rows_view (take c.in_ok-len.len c.join_moved.new.room) in
    let w = c.in_ok-len.ensures.put own d (sends_table c.images_at-images.result (own.sends d) c.images_at-images.ensures) in (
      draw_stands c.args.self.now.cards own rows d c.loop-draw.len c.in_ok-len.len c.loop-draw.room c.args.room.now c.join_moved.new.room c.loop-draw.invariant.0 c.join_moved.auto.room w,
      (λ b l. draw_total c.args.self.now.cards own rows d S b T l (c.loop-draw.invariant.1 b l) w.here),
      λ p next h.
          let mix : Mixing = shuffling p c.args.line c.args.total next in
          let v = c.in_ok-len.ensures.put mix d (sends_bank c.images_at-images.result c.args.self.now.cards c.args.line c.args.total m d c.images_at-images.ensures p next h) in
          draw_state c.args.self.now.cards mix rows d S T (c.loop-draw.invariant.2 p next h) v.here,
    )

pub returns-clause-put : goal.returns-clause-put
returns-clause-put g c =
    λ p next h.
    let all : c.loop-draw.draw ≡ c.args.total = (let k = c.loop-draw.auto.draw-end in let l = c.loop-draw-test.false in omega arith) in
    written_standing c.loop-draw.len c.loop-draw.room c.args.room.now _ c.loop-draw.invariant.0
    (c.loop-draw.invariant.2 p next h ∙ ap (mixed_by c.args.self.now.cards (shuffling p c.args.line c.args.total next) (rows_view c.args.self.now.rows.now)) all)
