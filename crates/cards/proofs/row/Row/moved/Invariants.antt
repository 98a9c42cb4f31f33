use Rattle.std.proofs.Common.{◌≡◌, ℕ, length, get_or, drop}
use Rattle.cards.specs.Rows.{carried, settled}
use Rattle.cards.proofs.row.Row.moved.Given as goal

abbrev pub invariant-loop-card : goal.invariant-loop-card
invariant-loop-card l =
    (settled (λ (s : ℕ). get_or l.fn.images s 0) (length l.yielded) l.card-iterator.a.rest.now l.after ≡ carried (λ (s : ℕ). get_or l.fn.images s 0) l.fn.self.cards)
    × ((l.card-iterator.b.rest.now ≡ drop (length l.yielded) l.fn.images) × ((length l.card-iterator.a.rest.now ≡ length l.card-iterator.b.rest.now) × (length l.after ≡ 12)))
