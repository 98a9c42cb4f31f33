use Rattle.std.proofs.Common.{◌+◌, ◌-◌, length, refl, ◌∙◌, arith}
use Rattle.std.proofs.lemmas.List.Edits.{paste_all}
use Rattle.std.proofs.lemmas.Slice.{put_mid-paste}
use Rattle.line_parts.proofs.marks.write_marks.Goals as goal

pub returns : goal.returns
returns c =
    put_mid-paste c.args.at ((c.args.at + length c.args.marks.now) - c.args.at) c.args.page.now c.copy_from_slice.new.self
    c.args.marks.now (length c.args.marks.now) c.copy_from_slice.ensures.after (omega arith) refl
    ∙ paste_all c.args.page.now c.args.at c.args.marks.now (length c.args.marks.now) refl
