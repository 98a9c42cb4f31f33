use Rattle.table.proofs.Dealing.{inputs_are, laid_as}
use Rattle.table.proofs.laying.lay_cards.Goals as goal

pub returns-then-number-count_inputs : goal.returns-then-number-count_inputs
returns-then-number-count_inputs g c =
    let e = inputs_are c.args.checked.now c.head.result c.count_inputs.result c.head.ensures c.count_inputs.ensures in
    rw e at c.if-number-count_inputs.true

pub returns : goal.returns
returns g c =
    let e = inputs_are c.args.checked.now c.head.result c.count_inputs.result c.head.ensures c.count_inputs.ensures in
    record {
      input = rw e at c.if-number-count_inputs.false;
      cards = λ bank. laid_as c.args.checked.now (g.D.Deck.means c.args.deck.now) bank c.args.number c.codes.result.now _ c.codes.ensures c.lay.ensures;
    }
