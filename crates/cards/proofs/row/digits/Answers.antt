use Rattle.std.proofs.Common.{ℕ, ◌-◌, ◌/◌, ◌%◌, ◌^◌, cond, ltb, rules}
use Rattle.cards.proofs.Made.{made_below}
use Rattle.cards.proofs.Moves.{aligned_digit}
use Rattle.cards.proofs.row.digits.Goals as goal

pub returns : goal.returns
returns c =
    made_below _ (λ (s : ℕ). cond (ltb s c.args.digits) ((c.args.number / 16 ^ (c.args.digits - 1 - s)) % 16) 0) _
    12 (λ i y q within called. search (rules, aligned_digit c.args.number c.args.digits i c.requires within)) c.from_fn.result c.from_fn.ensures.items
