use Rattle.std.proofs.Common.{refl}
use Rattle.protocol.specs.Table.{session}
use Rattle.table_law.proofs.Unlaid.{untouched_without_lay}
use Rattle.table_law.proofs.untouched_without_lay.Goals as goal

pub returns : goal.returns
unfolding session
returns c = record { theorem = untouched_without_lay; byte = refl }
