use Rattle.std.proofs.Common.{length}
use Rattle.rows.proofs.batch.+settle.Given as goal

abbrev pub decreases-settle : goal.decreases-settle
decreases-settle l = length l.rows.now
