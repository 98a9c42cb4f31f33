use Rattle.std.proofs.Common.{◌≡◌, ℕ, ◌<◌, min, List, length, take, ap, ◌∙◌, arith, rules}
use Rattle.std.proofs.lemmas.List.{length-take, take_all}
use Rattle.std.proofs.lemmas.Int.Digits.{number_more}
use Rattle.std.specs.Int.Digits.{number_from_digits}
use Rattle.cards.specs.Rows.{packed, unpacked}
use Rattle.cards.proofs.Moves.{packs, packed_all, unpack_pack}
use Rattle.cards.proofs.row.Row.pack.Goals as goal

-- at most twelve cards are gone through
few : (i n m : ℕ) (row : List ℕ) → m ≡ min n 12 → i < length (take m row) → i < 12
few i n m row e h = omega (arith, length-take m row, e, h)

pub overflow_mul-number : goal.overflow_mul-number
overflow_mul-number c =
    let less : c.loop-card.card-index < 12 = few c.loop-card.card-index c.args.n c.from.result c.args.self.cards (c.from.ensures ∙ c.min.ensures) c.loop-card-test.true in
    let p = packs c.loop-card.card-index c.loop-card.number 0 less c.loop-card.invariant.1 (omega arith) in omega (arith, p.0)

pub overflow_add-number : goal.overflow_add-number
overflow_add-number c =
    let less : c.loop-card.card-index < 12 = few c.loop-card.card-index c.args.n c.from.result c.args.self.cards (c.from.ensures ∙ c.min.ensures) c.loop-card-test.true in
    let small : c.from-in-loop-card.result < 256 = search rules in
    let p = (packs c.loop-card.card-index c.loop-card.number c.from-in-loop-card.result less c.loop-card.invariant.1 small).1 in omega (arith, p.0)

pub loop-card-preserved : goal.loop-card-preserved
loop-card-preserved c =
    let cards : List ℕ = take c.from.result c.args.self.cards in
    let less : c.loop-card.card-index < 12 = few c.loop-card.card-index c.args.n c.from.result c.args.self.cards (c.from.ensures ∙ c.min.ensures) c.loop-card-test.true in
    let small : c.from-in-loop-card.result < 256 = search rules in
    let more = number_more 16 cards c.loop-card.card-index c.loop-card-test.true in (
      omega (arith, more, c.loop-card.invariant.0, c.from-in-loop-card.ensures),
      (packs c.loop-card.card-index c.loop-card.number c.from-in-loop-card.result less c.loop-card.invariant.1 small).1.1,
    )

pub returns-clause-back : goal.returns-clause-back
returns-clause-back c =
    let m : ℕ = c.from.result in
    let long : length c.args.self.cards ≡ 12 = search rules in
    let e : m ≡ min c.args.n 12 = c.from.ensures ∙ c.min.ensures in
    let is : c.loop-card.number ≡ packed c.args.n c.args.self.cards =
    c.loop-card.invariant.0
    ∙ ap (number_from_digits 16) (take_all c.loop-card.card-index (take m c.args.self.cards) c.loop-card-test.false)
    ∙ ap (λ (k : ℕ). packed k c.args.self.cards) e
    ∙ packed_all c.args.n c.args.self.cards long in
    λ low dealt. ap (λ (x : ℕ). unpacked c.args.n x) is ∙ unpack_pack c.args.n c.args.self.cards low dealt
