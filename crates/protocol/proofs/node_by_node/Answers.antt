use Rattle.std.proofs.Common.{refl}
use Rattle.protocol.specs.Tree.{certify, scan, events, subtree}
use Rattle.protocol.proofs.Reached.{node_by_node}
use Rattle.protocol.proofs.node_by_node.Goals as goal

pub returns : goal.returns
unfolding certify scan events subtree
returns c = record { theorem = node_by_node; nodes = refl }
