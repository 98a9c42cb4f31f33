-- What a branch of the code means, and the branches that are left of a turn.
use Rattle.std.specs.Prelude.{List}
use Rattle.script.specs.Model as model
use Rattle.sheet.specs.declared.branches.Branch.{Branch}
use Rattle.sheet.specs.declared.branches.Branches.{Branches}
use Rattle.sheet.specs.Scripts.{branches_of}

abbrev pub branch_view : Branch → model.Branch
branch_view b = record { marks = b.marks.now; target = b.target }

abbrev pub branches_left : Branches → List model.Branch
branches_left b = branches_of b.turned b.rest.now
