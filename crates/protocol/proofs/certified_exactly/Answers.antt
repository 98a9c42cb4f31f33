use Rattle.std.proofs.Common.{refl}
use Rattle.protocol.specs.Tree.{certify, scan, events, subtree}
use Rattle.protocol.proofs.Certified.{certified_exactly}
use Rattle.protocol.proofs.certified_exactly.Goals as goal

pub returns : goal.returns
unfolding certify scan events subtree
returns c = record { theorem = certified_exactly; nodes = refl }
