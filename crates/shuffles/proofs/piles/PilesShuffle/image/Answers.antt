use Rattle.std.proofs.Common.{◌≡◌, ◌+◌, ◌*◌, ◌/◌, ◌%◌, ◌<◌, true, sym, ◌∙◌, subst, arith}
use Rattle.cards.specs.Shuffles.{image, piles, piles_fit}
use Rattle.shuffles.specs.Lawful.{pile_bound}
use Rattle.shuffles.proofs.piles.PilesShuffle.image.Goals as goal
use Rattle.shuffles.proofs.piles.PilesShuffle.image.Given as given

-- the card's new slot lies in the row
small : (g : given.Over) (c : goal.After-number-pile g) → c.number-pile.result * c.args.self.now.size + c.number-s.result % c.args.self.now.size < 12
small g c =
    let m = c.args.self.now.size in
    let b = g.S.Shuffle.means c.args.self.now.below in
    let e : c.number-pile.result ≡ image b c.args.draw (c.number-s.result / m) = cc in
    let fit : piles_fit m b ≡ true = sym c.fits.ensures ∙ c.if-not-fits.false in
    let in' : c.number-s.result < (piles m b).width = subst (λ w. c.number-s.result < w) c.width.ensures c.if-s-width.false in
    pile_bound m b (g.met.S.Shuffle.lawful c.args.self.now.below) c.args.draw c.number-s.result _ fit in' e

pub overflow_mul-pile : goal.overflow_mul-pile
overflow_mul-pile g c = let h = small g c in omega arith

pub overflow_add-pile : goal.overflow_add-pile
overflow_add-pile g c = let h = small g c in omega arith

pub at-requires-2 : goal.at-requires-2
at-requires-2 g c = small g c
