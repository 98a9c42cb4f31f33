use Rattle.std.proofs.Common.{arith}
use Rattle.sheet.specs.Acting.{entries_short}
use Rattle.sheet.specs.Lines.{frame}
use Rattle.sheet.specs.Passing.{frame_short}
use Rattle.sheet.proofs.read.ReadSheet.action.Goals as goal

pub act-requires : goal.act-requires
act-requires c =
    let s = c.args.self.now in
    let f = c.in-Some.ensures.parts in
    let e = f.1 in
    let k = frame_short _ s.counted.sound c.args.line (omega (arith, s.counted.few, f.0)) in
    (omega (arith, s.counted.few, f.0), rw e (omega (arith, k, entries_short (frame s.bytes.now c.args.line))))
