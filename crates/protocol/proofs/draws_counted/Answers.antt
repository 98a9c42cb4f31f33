use Rattle.std.proofs.Common.{refl}
use Rattle.protocol.proofs.Certified.{draws_counted}
use Rattle.protocol.proofs.draws_counted.Goals as goal

pub returns : goal.returns
returns c = record { theorem = draws_counted; lines = refl }
