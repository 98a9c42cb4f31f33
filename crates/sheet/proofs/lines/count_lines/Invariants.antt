use Rattle.std.proofs.Common.{◌≤◌}
use Rattle.sheet.specs.Splitting.{Walked}
use Rattle.sheet.proofs.lines.count_lines.Given as goal

abbrev pub invariant-loop-line : goal.invariant-loop-line
invariant-loop-line l = (l.lines ≤ 64) × Walked l.bytes l.lines l.line-iterator.rest.now
