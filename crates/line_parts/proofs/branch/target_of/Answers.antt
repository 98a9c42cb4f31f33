use Rattle.std.proofs.Common.{rules, ap, ◌∙◌}
use Rattle.std.specs.Option.{option_map}
use Rattle.std.proofs.lemmas.Iterator.Consumers.{YieldsList-from_first}
use Rattle.std.proofs.lemmas.Iterator.Search.{find_from_yields_List}
use Rattle.rows.proofs.Dictionary.{same_is}
use Rattle.sheet.specs.Branching.{branch_view, branches_left}
use Rattle.sheet.specs.Scripts.{branches_of}
use Rattle.line_parts.proofs.Branching.{has_marks, target_is, target_found}
use Rattle.line_parts.proofs.branch.target_of.Goals as goal

pub returns : goal.returns
returns c =
    let f = find_from_yields_List (has_marks c.args.marks.now) c.find.new.self _ c.find.result c.find.ensures.ran
    (YieldsList-from_first branch_view branches_left (branches_of c.args.turned c.args.branches.now) c.new.ensures)
    (λ x b q k. search (rules, same_is)) in
    target_found c.find.result c.map.result _ c.map.ensures.cases (λ x y q. search rules)
    ∙ ap (option_map (λ b. b.target)) f ∙ target_is c.args.marks.now (branches_of c.args.turned c.args.branches.now)
