use Rattle.std.proofs.Common.{refl}
use Rattle.protocol.specs.Tree.{certify, scan, events, subtree}
use Rattle.protocol.proofs.Computed.{worked}
use Rattle.protocol.proofs.worked.Goals as goal

pub returns : goal.returns
unfolding certify scan events subtree
returns c = record { samples = worked; refusal = refl }
