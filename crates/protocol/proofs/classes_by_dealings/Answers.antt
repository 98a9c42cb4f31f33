use Rattle.std.proofs.Common.{refl}
use Rattle.protocol.specs.Tree.{certify, scan, events, subtree}
use Rattle.protocol.proofs.Classes.{classes}
use Rattle.protocol.proofs.classes_by_dealings.Goals as goal

pub returns : goal.returns
unfolding certify scan events subtree
returns c = record { theorem = classes; class = refl }
