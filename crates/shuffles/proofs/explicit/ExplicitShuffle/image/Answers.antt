use Rattle.std.proofs.Common.{◌≡◌, ℕ, ◌<◌, List, [], get_or, ap, ◌∙◌, arith}
use Rattle.cards.specs.Shuffles.{entries_of, spelled, weights}
use Rattle.shuffles.specs.Entries.{explicit_row}
use Rattle.shuffles.proofs.explicit.ExplicitShuffle.image.Goals as goal

pub at-requires : goal.at-requires
at-requires g c =
    let q = c.args.self.now.slots in
    let xs = g.L.Bytes.listed c.args.self.now.entries in
    let fit = c.in-Some.ensures in
    let d : c.args.draw < weights (entries_of q xs) = omega (arith, fit.1, c.if-draw-total.true) in
    let h = explicit_row q (entries_of q xs) fit.0 c.args.draw c.number-s.result d c.if-s-self.true in
    let e : c.image_in.result ≡ get_or (get_or (spelled (entries_of q xs)) c.args.draw []) c.number-s.result c.number-s.result = c.image_in.ensures ∙ ap (λ (l : List ℕ). get_or (get_or (spelled (entries_of q l)) c.args.draw []) c.number-s.result c.number-s.result) c.bytes.ensures in
    omega (arith, e, h)
