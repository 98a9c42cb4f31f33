use Rattle.std.proofs.Common.{length, ap, rules}
use Rattle.sheet.specs.Chunks.{branch_next}
use Rattle.sheet.proofs.branches.BranchesIterator.next.Goals as goal

pub returns-clause-steps : goal.returns-clause-steps
returns-clause-steps c = branch_next _ _ _ _ _ _ c.in_ok-marks.ensures.cases c.in_ok-target.ensures.cases

pub returns-clause-goes : goal.returns-clause-goes
returns-clause-goes c =
    let step = branch_next _ _ _ _ _ _ c.in_ok-marks.ensures.cases c.in_ok-target.ensures.cases in
    let shorter = ap length step in
    search rules
