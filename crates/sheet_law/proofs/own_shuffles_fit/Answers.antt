use Rattle.sheet_law.proofs.Fitting.{own_shuffles_fit}
use Rattle.sheet_law.proofs.own_shuffles_fit.Goals as goal

pub returns : goal.returns
returns c = own_shuffles_fit
