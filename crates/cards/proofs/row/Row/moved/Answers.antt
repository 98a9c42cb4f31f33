use Rattle.std.proofs.Common.{◌≡◌, ℕ, List, length, get_or, sym, ap, ◌∙◌, subst, rules}
use Rattle.std.proofs.lemmas.Iterator.{empty_from_Zip}
use Rattle.cards.proofs.Moves.{carried_found}
use Rattle.cards.specs.Rows.{carried, settled, OneToOne, Found}
use Rattle.cards.proofs.row.Row.moved.Goals as goal

pub returns-clause-found : goal.returns-clause-found
returns-clause-found c =
    let to : ℕ → ℕ = λ n. get_or c.args.images n 0 in
    let long : length c.args.self.cards ≡ 12 = search rules in
    let none = empty_from_Zip c.loop-card.card-iterator c.next.new.self c.next.result c.in-None.is c.next.ensures.steps c.loop-card.invariant.1.1.0 in
    let e : c.loop-card.after ≡ carried to c.args.self.cards = sym (ap (λ (cs : List ℕ). settled to (length c.loop-card.yielded) cs c.loop-card.after) none.0) ∙ c.loop-card.invariant.0 in
    λ one.
    subst (λ (after : List ℕ). Found to c.args.self.cards after) (sym e)
    (carried_found to c.args.self.cards (subst (λ (n : ℕ). OneToOne n to) (sym long) one))
