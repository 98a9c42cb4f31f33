use Rattle.std.proofs.Common.{◌≡◌, None, ap, ◌∙◌, subst, arith}
use Rattle.std.proofs.lemmas.Result.{err_from_is_err_and}
use Rattle.heads.specs.Heads.{head_of}
use Rattle.sheet.specs.First.{first}
use Rattle.sheet.specs.Verdicts.{line_fault}
use Rattle.sheet.specs.Passing.{frame_short, at_head, past_head, at_layout, past_layout, at_line, past_line, players_few}
use Rattle.sheet.proofs.passes.check_frames.Goals as goal

pub read_head-requires : goal.read_head-requires
read_head-requires c =
    let e = c.frame_at.ensures in rw e (frame_short _ c.requires.0.sound 0 (omega arith))

pub returns-in_err-head : goal.returns-in_err-head
returns-in_err-head c =
    let p = err_from_is_err_and c.from_residual.result c.from_residual.ensures.1 in
    rw (p.1, p.2)
    (at_head _ _ c.requires.0 _ _ c.frame_at.ensures c.requires.1 c.in_err-head.ensures)

pub check_layout-requires : goal.check_layout-requires
check_layout-requires c =
    let e = c.frame_at-2.ensures in
    let h = c.in_ok-head.ensures in
    (rw e (frame_short _ c.requires.0.sound 1 (omega arith)), players_few c.frame_at.result.now _ h.1 h.0)

pub returns-in_err-check_layout : goal.returns-in_err-check_layout
returns-in_err-check_layout c =
    let p = err_from_is_err_and c.from_residual-in_err-check_layout.result c.from_residual-in_err-check_layout.ensures.1 in
    let h = c.in_ok-head.ensures in
    rw (p.1, p.2)
    (at_layout _ _ c.requires.0 _ _ _ (h.1 ∙ ap head_of c.frame_at.ensures) c.frame_at-2.ensures c.requires.1
    (past_head _ _ c.requires.0 _ c.frame_at.ensures h.0)
    c.in_err-check_layout.ensures)

pub loop-line-init : goal.loop-line-init
loop-line-init c =
    let h = c.in_ok-head.ensures in
    past_layout _ _ c.requires.0 _ _ (h.1 ∙ ap head_of c.frame_at.ensures) c.frame_at-2.ensures
    (past_head _ _ c.requires.0 _ c.frame_at.ensures h.0)
    c.in_ok-check_layout.ensures

pub read_frame-requires : goal.read_frame-requires
read_frame-requires c =
    let e = c.frame_at-in-loop-line.ensures in (
      rw e (frame_short _ c.requires.0.sound c.loop-line.line (omega (arith, c.requires.0.few))),
      (omega arith, omega arith),
    )

pub returns-in_err-_frame : goal.returns-in_err-_frame
returns-in_err-_frame c =
    let p = err_from_is_err_and c.from_residual-in_err-_frame.result c.from_residual-in_err-_frame.ensures.1 in
    let h = c.in_ok-head.ensures in
    rw (p.1, p.2)
    (at_line _ _ c.requires.0 _ _ c.loop-line.line _ (h.1 ∙ ap head_of c.frame_at.ensures) c.frame_at-in-loop-line.ensures
    (omega arith) (omega arith) c.loop-line.invariant c.in_err-_frame.ensures)

pub loop-line-preserved : goal.loop-line-preserved
loop-line-preserved c =
    let h = c.in_ok-head.ensures in
    past_line _ _ c.requires.0 _ _ c.loop-line.line (h.1 ∙ ap head_of c.frame_at.ensures) c.frame_at-in-loop-line.ensures
    (omega arith) c.loop-line.invariant c.in_ok-_frame.ensures.fits

pub returns : goal.returns
returns c =
    let h = c.in_ok-head.ensures in
    let f : c.loop-line.line ≡ c.args.lines = omega arith in
    record {
      sound = subst (λ n. first n (line_fault c.args.bytes.now) ≡ None) f c.loop-line.invariant;
      heads = h.1 ∙ ap head_of c.frame_at.ensures;
    }
