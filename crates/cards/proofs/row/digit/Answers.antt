use Rattle.std.proofs.Common.{ℕ, ◌-◌, ◌/◌, ◌%◌, ◌^◌, cond, sym, ap, ◌∙◌}
use Rattle.std.proofs.lemmas.Bool.{lt-ltb}
use Rattle.cards.proofs.Moves.{sixteens}
use Rattle.cards.proofs.row.digit.Goals as goal

pub returns-then-slot-digits : goal.returns-then-slot-digits
returns-then-slot-digits c =
    let k : ℕ = c.args.digits - 1 - c.args.slot in
    ap (λ (n : ℕ). (c.args.number / n) % 16) (sixteens k)
    ∙ sym (ap (λ b. cond b ((c.args.number / 16 ^ k) % 16) 0) (lt-ltb _ _ c.if-slot-digits.true))
