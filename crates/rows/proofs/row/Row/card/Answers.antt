use Rattle.std.proofs.Common.{◌≡◌, ℕ, ◌+◌, ◌-◌, ◌/◌, ◌%◌, ◌^◌, ◌≤◌, cond, ltb, ap, sym, ◌∙◌, arith}
use Rattle.std.proofs.lemmas.List.FromFn.{get_or-map-range_with_len}
use Rattle.cards.specs.Rows.{unpacked}
use Rattle.protocol.specs.Machine.{card_at}
use Rattle.rows.proofs.row.Row.card.Goals as goal

-- the digit in a place's slot is the card at the place
digit_card : (x n digits slot place digit : ℕ) → digits ≡ n → slot + 1 ≡ place → place ≤ 12 → digit ≡ cond (ltb slot digits) ((x / 16 ^ (digits - 1 - slot)) % 16) 0 → digit ≡ card_at (unpacked n x) place
digit_card x n digits slot place digit same beside within is =
    let at : ℕ → ℕ = λ s. cond (ltb s n) ((x / 16 ^ (n - 1 - s)) % 16) 0 in
    is
    ∙ ap (λ (k : ℕ). cond (ltb slot k) ((x / 16 ^ (k - 1 - slot)) % 16) 0) same
    ∙ sym (get_or-map-range_with_len at 0 12 (place - 1) slot 0 (omega arith) (omega arith))

pub returns : goal.returns
returns c =
    digit_card c.args.self.now.sequence c.args.number c.from.result c.from-2.result c.args.place.number c.digit.result
    c.from.ensures (omega (arith, c.from-2.ensures, c.number.ensures, c.slot.ensures)) c.args.place.in_row c.digit.ensures
