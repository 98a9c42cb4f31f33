use Rattle.std.proofs.Common.{refl}
use Rattle.protocol.specs.Table.{session}
use Rattle.protocol.proofs.Followed.{table_and_machine}
use Rattle.protocol.proofs.table_and_machine.Goals as goal

pub returns : goal.returns
unfolding session
returns c = record { theorem = table_and_machine; output = refl }
