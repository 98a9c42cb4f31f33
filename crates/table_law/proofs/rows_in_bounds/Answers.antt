use Rattle.std.proofs.Common.{refl}
use Rattle.table_law.proofs.Bounds.{rows_in_bounds_law}
use Rattle.table_law.proofs.rows_in_bounds.Goals as goal

pub returns : goal.returns
returns c = record { theorem = rows_in_bounds_law; sequence = refl }
