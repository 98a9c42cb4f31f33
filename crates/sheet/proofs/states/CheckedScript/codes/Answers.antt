use Rattle.std.proofs.Common.{◌≤◌, length, ap, ◌∙◌, arith}
use Rattle.sheet.specs.Lines.{frame}
use Rattle.sheet.specs.Sheets.{script_bytes}
use Rattle.sheet.specs.Passed.{layout_some, not_some}
use Rattle.sheet.proofs.states.CheckedScript.codes.Goals as goal

pub unreachable-requires : goal.unreachable-requires
unreachable-requires c =
    let e = c.frame_at.ensures ∙ ap (λ b. frame b 1) c.written.ensures in
    let s : 1 ≤ length c.frame_at.result.now = rw e (layout_some (script_bytes c.args.self.now) (not_some _ c.args.self.now.passes)) in
    omega arith
