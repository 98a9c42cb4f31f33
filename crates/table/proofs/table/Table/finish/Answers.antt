use Rattle.std.proofs.Common.{sym}
use Rattle.line_parts.proofs.Acting.{result_places}
use Rattle.table.proofs.table.Table.finish.Goals as goal

pub at-requires : goal.at-requires
at-requires g c =
    (result_places c.script.result.now c.args.self.now.at.line c.in-Running-Committed.left c.in-Running-Committed.right (sym c.in-Running-Committed.ensures)).0

pub at-requires-in-Running-Committed : goal.at-requires-in-Running-Committed
at-requires-in-Running-Committed g c =
    (result_places c.script.result.now c.args.self.now.at.line c.in-Running-Committed.left c.in-Running-Committed.right (sym c.in-Running-Committed.ensures)).1
