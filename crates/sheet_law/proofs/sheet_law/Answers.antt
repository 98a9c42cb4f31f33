use Rattle.sheet_law.proofs.Deciding.{sheet_law}
use Rattle.sheet_law.proofs.sheet_law.Goals as goal

pub returns : goal.returns
returns c = sheet_law
