use Rattle.std.proofs.Common.{refl}
use Rattle.protocol.specs.Tree.{events, subtree}
use Rattle.protocol.proofs.Fixed.{one_state}
use Rattle.protocol.proofs.one_state.Goals as goal

pub returns : goal.returns
unfolding events subtree
returns c = record { theorem = one_state; rows = refl }
