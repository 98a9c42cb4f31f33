use Rattle.std.proofs.Common.{length, sym, arith}
use Rattle.std.proofs.lemmas.List.{length-take}
use Rattle.sheet.specs.Scripts.{branches_of}
use Rattle.line_parts.proofs.Acting.{turn_places}
use Rattle.table.proofs.table.Table.turn.Goals as goal

pub marks_at-marks-requires : goal.marks_at-marks-requires
marks_at-marks-requires c =
    let t = turn_places c.script.result.now c.args.self.now.at.line c.in-Running-Turn.places.now (branches_of (length c.in-Running-Turn.places.now) c.in-Running-Turn.branches.now) (sym c.in-Running-Turn.ensures) in
    record { few = t.few; places = t.inside }

pub write_marks-requires : goal.write_marks-requires
write_marks-requires c =
    let some = (turn_places c.script.result.now c.args.self.now.at.line c.in-Running-Turn.places.now (branches_of (length c.in-Running-Turn.places.now) c.in-Running-Turn.branches.now) (sym c.in-Running-Turn.ensures)).some in
    simp length-take (omega arith)
