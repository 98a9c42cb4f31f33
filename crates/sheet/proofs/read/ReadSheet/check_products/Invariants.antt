use Rattle.sheet.proofs.Multiplying.{Ahead}
use Rattle.sheet.proofs.read.ReadSheet.check_products.Given as goal

abbrev pub invariant-loop-line : goal.invariant-loop-line
invariant-loop-line l = Ahead l.self.bytes.now l.line l.arrived.items
