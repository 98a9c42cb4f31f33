use Rattle.std.proofs.Common.{refl}
use Rattle.samples.proofs.Lawful.{promises_apply}
use Rattle.samples.proofs.promises_apply.Goals as goal

pub returns : goal.returns
returns c = record { theorem = promises_apply; nodes = refl }
