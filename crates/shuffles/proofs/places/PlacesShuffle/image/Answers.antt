use Rattle.std.proofs.Common.{◌≡◌, ℕ, ◌+◌, true, List, sym, ap, ◌∙◌, subst}
use Rattle.cards.specs.Lists.{position}
use Rattle.cards.specs.Shuffles.{image, places, places_fit}
use Rattle.shuffles.specs.Lawful.{Lands, lands}
use Rattle.shuffles.proofs.places.PlacesShuffle.image.Goals as goal
use Rattle.shuffles.proofs.places.PlacesShuffle.image.Goals.{After-from}
use Rattle.shuffles.proofs.places.PlacesShuffle.image.Given as given

-- where the place goes, from what the calls ensured
landed : (g : given.Over) (c : After-from g) → Lands c.args.self.now.cards c.bytes-places.result.now (g.S.Shuffle.means c.args.self.now.below) c.args.draw c.args.slot.number c.from.result
landed g c =
    let n = c.args.self.now.cards in
    let ps = c.bytes-places.result.now in
    let b = g.S.Shuffle.means c.args.self.now.below in
    let e : c.in-Some.r ≡ position (c.args.slot.number + 1) ps = c.in-Some.ensures.0 ∙ ap (λ (x : ℕ). position x ps) (c.number.ensures ∙ c.place.ensures) in
    let t : c.from.result ≡ image b c.args.draw c.in-Some.r = c.from.ensures ∙ c.number-to.ensures ∙ c.image.ensures ∙ ap (λ (x : ℕ). image b c.args.draw x) c.at.ensures in
    let fit : places_fit n ps b ≡ true = subst (λ (l : List ℕ). places_fit n l b ≡ true) (sym c.bytes-places.ensures) (sym c.fits.ensures ∙ c.if-not-fits.false) in
    lands n ps b (g.met.S.Shuffle.lawful c.args.self.now.below) fit c.args.draw c.args.slot.number _ _ e c.in-Some.ensures.1 t

pub at-requires-2 : goal.at-requires-2
at-requires-2 g c = let h = landed g (goal.at.at-requires-2 g c).After-from in (h.low, h.high)

pub returns : goal.returns
returns g c =
    subst (λ (l : List ℕ). c.slot.result.number ≡ image (places c.args.self.now.cards l (g.S.Shuffle.means c.args.self.now.below)) c.args.draw c.args.slot.number)
    c.bytes-places.ensures
    ((landed g (goal.at.returns g c).After-from).slot c.slot.result.number (c.slot.ensures ∙ c.at-2.ensures))
