use Rattle.std.proofs.Common.{◌≡◌, length, get_or, ◌∙◌, arith, rules}
use Rattle.cards.specs.Shuffles.{image}
use Rattle.cards.proofs.Moves.{carried_same}
use Rattle.protocol.specs.Machine.{fitted}
use Rattle.rows.proofs.Fitted.{sends_table}
use Rattle.table.proofs.moves.shuffle_row.Goals as goal

pub returns : goal.returns
returns g c =
    let long : length c.args.row.cards ≡ 12 = search rules in
    let to = image (fitted c.args.cards c.args.total (g.B.Bank.at c.args.bank.now c.args.line)) c.args.draw in
    c.moved.ensures.value
    ∙ carried_same (λ s. get_or c.images_at.result s 0) to c.args.row.cards
    (λ i h. sends_table c.images_at.result to c.images_at.ensures i (omega arith))
