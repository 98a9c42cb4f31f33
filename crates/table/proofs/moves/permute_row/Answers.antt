use Rattle.std.proofs.Common.{◌≡◌, pred, map, length, get_or, ◌∙◌, arith, rules}
use Rattle.cards.proofs.Moves.{carried_same}
use Rattle.table.proofs.moves.permute_row.Goals as goal

pub returns : goal.returns
returns c =
    let long : length c.args.row.cards ≡ 12 = search rules in
    c.moved.ensures.value
    ∙ carried_same (λ s. get_or c.images_of.result s 0) (λ s. get_or (map pred c.args.places.now) s s) c.args.row.cards
    (λ i h. c.images_of.ensures i (omega arith))
