use Rattle.std.proofs.Common.{◌≡◌, ℕ, ◌<◌, List, length, get_or, sym, ap, ◌∙◌, subst, zero-add, arith, rules}
use Rattle.std.proofs.lemmas.List.FromFn.{get_or-map-range_with_len}
use Rattle.cards.specs.Shuffles.{ShuffleMeaning, image}
use Rattle.cards.specs.Rows.{carried, Found, OneToOne}
use Rattle.shuffles.specs.Lawful.{image_one, listed}
use Rattle.cards.proofs.Moves.{carried_same, carried_found}
use Rattle.shuffles.proofs.bank.deal.Goals as goal

pub returns : goal.returns
returns g c =
    let m : ShuffleMeaning = g.B.Bank.at c.args.bank.now c.args.line in
    let w = g.met.B.Bank.lawful c.args.bank.now c.args.line in
    let long : length c.args.row.cards ≡ 12 = search rules in
    let to : ℕ → ℕ = image m c.args.draw in
    let same : (i : ℕ) → i < length c.args.row.cards → get_or c.images.result i 0 ≡ to i = λ i h.
    let lt : i < 12 = omega arith in
    ap (λ (l : List ℕ). get_or l i 0) c.images.ensures ∙ get_or-map-range_with_len to 0 12 i i 0 lt (zero-add i) in
    let is : c.moved.result.cards ≡ carried to c.args.row.cards = c.moved.ensures.value ∙ carried_same (λ i. get_or c.images.result i 0) to c.args.row.cards same in
    record {
      value = is;
      found = subst (λ (l : List ℕ). Found to c.args.row.cards l) (sym is) (carried_found to c.args.row.cards (subst (λ (n : ℕ). OneToOne n to) (sym long) (image_one m w c.args.draw)));
      listed = listed m w;
    }
