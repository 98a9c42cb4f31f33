use Rattle.std.proofs.Common.{ℕ, ◌<◌, rules, ap, ◌∙◌, arith}
use borrow.Author.Tests.{tests}
use Rattle.std.proofs.lemmas.Iterator.{serves_from_Range, YieldsList-from_range}
use Rattle.std.proofs.lemmas.Iterator.Search.{any_from_yields_List}
use Rattle.protocol.specs.States.{any_below}
use Rattle.rows.proofs.Alike.{parted}
use Rattle.rows.proofs.Below.{any_range}
use Rattle.rows.proofs.Starts.{counted}
use Rattle.rows.proofs.node.differs.Goals as goal

pub any-requires-clause-callable : goal.any-requires-clause-callable
any-requires-clause-callable c =
    let k = counted c.args.head.now.players c.count_inputs.result c.requires.1 c.count_inputs.ensures in
    serves_from_Range (λ x q r. search rules) (λ x l h. let m : x < 8 = omega arith in search rules)

pub returns : goal.returns
returns c =
    let k = counted c.args.head.now.players c.count_inputs.result c.requires.1 c.count_inputs.ensures in
    any_from_yields_List (parted c.args.head.now c.args.sums.now c.args.b) _ _ c.any.result c.any.ensures.ran (YieldsList-from_range 0 c.count_inputs.result c.count_inputs.result (cc) (omega arith)) (λ x b q k. search (rules, tests))
    ∙ any_range (parted c.args.head.now c.args.sums.now c.args.b) c.count_inputs.result
    ∙ ap (λ (n : ℕ). any_below n (parted c.args.head.now c.args.sums.now c.args.b)) k.many
