use Rattle.writing.proofs.Frames.{line_law}
use Rattle.writing.proofs.line_law.Goals as goal

pub returns : goal.returns
returns c = line_law
