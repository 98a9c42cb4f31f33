use Rattle.std.proofs.Common.{◌≡◌, replicate}
use lib.Seq.{paste}
use Rattle.protocol.specs.Machine.{marks_at}
use Rattle.rows.proofs.marks.marks_at.Given as goal

abbrev pub invariant-loop-i : goal.invariant-loop-i
invariant-loop-i l = l.marks ≡ paste (replicate 12 0) 0 (marks_at l.places l.row) l.i
