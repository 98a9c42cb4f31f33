use Rattle.std.proofs.Common.{◌≡◌, ◌≤◌, drop}
use Rattle.std.specs.Slice.Iter.{iter_rest}
use Rattle.sheet.specs.Products.{best, limit}
use Rattle.sheet.specs.Scripts.{action}
use Rattle.sheet.proofs.read.ReadSheet.arrival.Given as goal

abbrev pub invariant-loop-from : goal.invariant-loop-from
invariant-loop-from l = record {
  ends : l.from-iterator.a.end ≡ l.line;
  within : l.from-iterator.a.start ≤ l.line;
  left : iter_rest l.from-iterator.b ≡ drop l.from-iterator.a.start l.arrived;
  most : l.most ≡ best (action l.self.bytes.now) l.arrived l.line l.from-iterator.a.start;
  small : l.most ≤ limit;
}
