use Rattle.std.proofs.Common.{refl}
use Rattle.protocol.specs.Tree.{certify, scan, events, subtree}
use Rattle.protocol.proofs.Numbers.{read_off}
use Rattle.protocol.proofs.read_off.Goals as goal

pub returns : goal.returns
unfolding certify scan events subtree
returns c = record { theorem = read_off; wrong = refl }
