use Rattle.sheet_law.proofs.Naming.{naming_law}
use Rattle.sheet_law.proofs.naming_law.Goals as goal

pub returns : goal.returns
returns c = naming_law
