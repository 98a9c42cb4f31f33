use Rattle.std.proofs.Common.{refl}
use Rattle.protocol.specs.Tree.{events, subtree}
use Rattle.protocol.proofs.Lines.{states_of_lines}
use Rattle.protocol.proofs.states_of_lines.Goals as goal

pub returns : goal.returns
unfolding events subtree
returns c = record { theorem = states_of_lines; rows = refl }
