use Rattle.std.proofs.Common.{◌≡◌, ℕ, ◌<◌, List, length, Option, Some, None, false, is_some, MatchOption, arith, sym, ◌∙◌}
use Rattle.std.proofs.lemmas.Bool.{lt-ltb}
use Rattle.cards.specs.Lists.{member, position}
use Rattle.shuffles.specs.Positions.{member_is}
use Rattle.shuffles.proofs.lists.stands.Goals as goal

found_member : (x : ℕ) (xs : List ℕ) (r : Option ℕ) → MatchOption r (member x xs ≡ false) (λ i. (i ≡ position x xs) × (i < length xs)) → is_some r ≡ member x xs
found_member x xs None h = sym h
found_member x xs (Some i) h = sym (member_is x xs ∙ lt-ltb _ _ (omega (arith, h.0, h.1)))

pub returns : goal.returns
returns c = c.is_some.ensures ∙ found_member c.args.number c.args.list.now c.find.result c.find.ensures
