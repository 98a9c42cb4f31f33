use Rattle.std.proofs.Common.{arith}
use Rattle.sheet.specs.Sheets.{script_bytes}
use Rattle.sheet.specs.Passed.{head_known, not_some}
use Rattle.sheet.proofs.states.CheckedScript.head.Goals as goal

pub head_from-requires : goal.head_from-requires
head_from-requires c =
    let k = head_known (script_bytes c.args.self.now) (not_some _ c.args.self.now.passes) in
    rw (c.frame_at.ensures, c.written.ensures) (omega (arith, k.long))
