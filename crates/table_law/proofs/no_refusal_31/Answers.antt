use Rattle.std.proofs.Common.{refl}
use Rattle.protocol.specs.Table.{session}
use Rattle.table_law.proofs.Free.{no_refusal_31}
use Rattle.table_law.proofs.no_refusal_31.Goals as goal

pub returns : goal.returns
unfolding session
returns c = record { theorem = no_refusal_31; output = refl }
