use Rattle.std.proofs.Common.{sym}
use Rattle.line_parts.proofs.Acting.{permute_places}
use Rattle.table.proofs.table.Table.step.Goals as goal

pub permute_row-requires : goal.permute_row-requires
permute_row-requires g c =
    permute_places c.script.result.now c.args.self.now.at.line c.in-Running-Permute.places.now c.in-Running-Permute.next (sym c.in-Running-Permute.ensures)
