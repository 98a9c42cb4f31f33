use Rattle.std.proofs.Common.{refl}
use Rattle.protocol.specs.Tree.{certify, scan, events, subtree}
use Rattle.protocol.specs.Table.{session}
use Rattle.sheet.specs.First.{first}
use Rattle.sheet.specs.Lines.{left}
use Rattle.sheet.specs.Products.{arrivals}
use Rattle.worked_sheets.specs.WorkedSheets.{WorkedSheets}
use Rattle.worked_sheets.proofs.worked_sheets.Goals as goal

pub worked : WorkedSheets
unfolding certify scan events subtree session first left arrivals
worked = record {
  xor_passes = refl;
  uneven_passes = refl;
  same_last_passes = refl;
  one_branch_passes = refl;
  trick_passes = refl;
  xor_certified = refl;
  xor_nine_rows = refl;
  uneven_leaks = refl;
  same_last_wrong = refl;
  one_branch_refused = refl;
  trick_certified = refl;
  images = (refl, refl);
  xor_table = refl;
  xor_record = refl;
}

pub returns : goal.returns
unfolding certify scan events subtree first left
returns c = record { samples = worked; nodes = refl }
