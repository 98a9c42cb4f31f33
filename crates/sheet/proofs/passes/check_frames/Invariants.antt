use Rattle.std.proofs.Common.{◌≡◌, None}
use Rattle.sheet.specs.First.{first}
use Rattle.sheet.specs.Verdicts.{line_fault}
use Rattle.sheet.proofs.passes.check_frames.Given as goal

abbrev pub invariant-loop-line : goal.invariant-loop-line
invariant-loop-line l = first l.line (line_fault l.bytes) ≡ None
