use Rattle.std.proofs.Common.{◌==◌, rules}
use Rattle.std.proofs.lemmas.Iterator.Consumers.{YieldsList-from_first}
use Rattle.std.proofs.lemmas.Iterator.Search.{any_from_yields_List}
use Rattle.sheet.specs.Branching.{branch_view, branches_left}
use Rattle.sheet.specs.Scripts.{branches_of}
use Rattle.sheet.proofs.actions.has_target.Goals as goal

pub returns : goal.returns
returns c =
    any_from_yields_List (λ b. b.target == c.args.line) c.any.new.self _ _ c.any.ensures.ran
    (YieldsList-from_first branch_view branches_left (branches_of c.args.turned c.args.branches.now) c.new.ensures)
    (λ x b q k. search rules)
