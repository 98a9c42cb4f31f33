use Rattle.sheet_law.proofs.Exceeding.{exceeding_law}
use Rattle.sheet_law.proofs.exceeding_law.Goals as goal

pub returns : goal.returns
returns c = exceeding_law
