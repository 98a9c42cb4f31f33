use Rattle.std.proofs.Common.{◌∙◌, arith, rules}
use borrow.Author.Tests.{tests}
use Rattle.std.proofs.lemmas.Iterator.{YieldsList-from_map}
use Rattle.std.proofs.lemmas.Iterator.Adapters.{fits_from_length, at_most_from_yields_List}
use Rattle.std.proofs.lemmas.Iterator.Consumers.{YieldsList-at, sum_from_yields_List}
use Rattle.sheet.proofs.Weighing.{weights_come, weights_few, weights_sum}
use Rattle.sheet.proofs.actions.total_weight.Goals as goal

pub sum-requires-clause-fits : goal.sum-requires-clause-fits
sum-requires-clause-fits c =
    fits_from_length _ _ 128 _
    (at_most_from_yields_List (YieldsList-at c.map.ensures.source (weights_come c.step_by.result c.args.slots c.args.entries.now (search rules) (omega arith) c.step_by.ensures.first_take))
    (weights_few c.args.slots c.args.entries.now c.requires))
    c.map.ensures.closure (omega arith) (λ x r q k. search (rules, tests))

pub returns : goal.returns
returns c =
    sum_from_yields_List c.map.result _ c.sum.ensures.ran
    (YieldsList-from_map _ (λ x. x) (YieldsList-at c.map.ensures.source (weights_come c.step_by.result c.args.slots c.args.entries.now (search rules) (omega arith) c.step_by.ensures.first_take))
    c.map.ensures.closure (λ x r q k. search (rules, tests)))
    ∙ weights_sum c.args.slots c.args.entries.now
