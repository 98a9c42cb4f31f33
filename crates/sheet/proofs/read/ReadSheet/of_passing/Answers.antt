use Rattle.std.proofs.Common.{arith}
use Rattle.sheet.specs.Passed.{head_known}
use Rattle.sheet.proofs.read.ReadSheet.of_passing.Goals as goal

pub head_from-requires : goal.head_from-requires
head_from-requires c =
    let e = c.frame_at.ensures in rw e (omega (arith, (head_known c.args.bytes.now c.requires).long))
