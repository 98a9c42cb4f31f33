use Rattle.std.proofs.Common.{refl, ◌∙◌, arith, rules}
use Rattle.std.proofs.lemmas.Iterator.{YieldsList-from_range}
use Rattle.std.proofs.lemmas.Iterator.Search.{find_from_yields_List}
use Rattle.tree.specs.Certificates.{class_list}
use Rattle.tree.specs.Walks.{together}
use Rattle.tree.proofs.Dividing.{first_found}
use Rattle.tree.proofs.note.class_of.Goals as goal

pub returns : goal.returns
returns c =
    let test = together (class_list c.args.classes.now) c.args.sums.now c.args.b in
    c.unwrap_or.ensures
    ∙ first_found c.find.result c.args.b test
    (find_from_yields_List test c.find.new.self _ c.find.result c.find.ensures.ran (YieldsList-from_range 0 c.args.b c.args.b refl (omega arith)) (λ x b q k. search rules))
