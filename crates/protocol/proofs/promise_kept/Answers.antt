use Rattle.std.proofs.Common.{refl}
use Rattle.protocol.specs.Table.{session}
use Rattle.protocol.proofs.Kept.{kept}
use Rattle.protocol.proofs.promise_kept.Goals as goal

pub returns : goal.returns
unfolding session
returns c = record { theorem = kept; output = refl }
