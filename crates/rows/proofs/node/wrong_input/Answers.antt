use Rattle.std.proofs.Common.{ℕ, ◌^◌, ◌<◌, rules, ap, ◌∙◌, arith}
use borrow.Author.Tests.{tests}
use Rattle.std.proofs.lemmas.Iterator.{serves_from_Range, YieldsList-from_range}
use Rattle.std.proofs.lemmas.Iterator.Search.{find_from_yields_List}
use Rattle.cards.specs.declared.reading.Reading.{Reading}
use Rattle.rows.specs.Nodes.{strays, first_stray}
use Rattle.rows.specs.Views.{row_view}
use Rattle.rows.proofs.Starts.{counted}
use Rattle.rows.proofs.Wrongs.{input_found, map_found}
use Rattle.rows.proofs.node.wrong_input.Goals as goal

pub find-requires-clause-callable : goal.find-requires-clause-callable
find-requires-clause-callable g c =
    let k = counted c.args.head.now.players c.count_inputs.result c.requires.players c.count_inputs.ensures in
    serves_from_Range (λ x q r. search rules) (λ x l h. let m : x < 8 = omega arith in search rules)

pub returns : goal.returns
returns g c =
    let k = counted c.args.head.now.players c.count_inputs.result c.requires.players c.count_inputs.ensures in
    let f = find_from_yields_List (strays c.args.head.now.function c.reading-reading.result c.args.row.now.weights) _ _ c.find.result c.find.ensures.ran (YieldsList-from_range 0 c.count_inputs.result c.count_inputs.result (cc) (omega arith)) (λ x b q k. search (rules, tests)) in
    map_found c.args.row.now c.reading-reading.result _ c.find.result c.map.result c.map.ensures.cases (λ x w q. search rules)
    ∙ input_found c.args.head.now.function c.reading-reading.result (row_view c.args.row.now) c.find.result c.count_inputs.result f
    ∙ ap (λ (n : ℕ). first_stray c.args.head.now.function n c.reading-reading.result (row_view c.args.row.now)) k.many
    ∙ ap (λ (x : Reading). first_stray c.args.head.now.function (2 ^ c.args.head.now.players) x (row_view c.args.row.now)) c.reading-reading.ensures
