use Rattle.std.proofs.Common.{ap, ◌∙◌}
use Rattle.sheet.specs.Lines.{frame}
use Rattle.sheet.proofs.Stepping.{found_frame, no_frame}
use Rattle.sheet.proofs.lines.frame_at.Goals as goal

pub returns-in-Some : goal.returns-in-Some
returns-in-Some c =
    let r = c.in-Some.ensures.ran in
    found_frame _ _ _ r.0 _ c.args.line r.1.1 r.1.2 (r.2 ∙ c.from.ensures) ∙ ap (λ b. frame b c.args.line) c.new.ensures

pub returns-in-None : goal.returns-in-None
returns-in-None c =
    let r = c.in-None.ensures.ran in
    no_frame _ _ r.0 c.args.line r.1.1 r.1.2.0 (rw c.from.ensures at r.2) ∙ ap (λ b. frame b c.args.line) c.new.ensures
