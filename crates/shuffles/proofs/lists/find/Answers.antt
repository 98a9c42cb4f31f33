use Rattle.std.proofs.Common.{◌==◌, rules}
use Rattle.std.proofs.lemmas.Iterator.{YieldsList-from_slice}
use Rattle.std.proofs.lemmas.Iterator.Search.{position_from_yields_List}
use Rattle.shuffles.specs.Positions.{position_found}
use Rattle.shuffles.proofs.lists.find.Goals as goal

pub returns : goal.returns
returns c =
    position_found c.args.number c.args.list.now c.position.result
    (position_from_yields_List (λ x. x == c.args.number) _ _ c.position.result c.position.ensures.ran (YieldsList-from_slice c.args.list.now cc) (λ x b q k. search rules))
