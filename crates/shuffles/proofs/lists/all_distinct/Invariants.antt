use Rattle.std.proofs.Common.{◌≡◌, length}
use Rattle.cards.specs.Lists.{distinct}
use Rattle.shuffles.proofs.lists.all_distinct.Given as goal

abbrev pub decreases-loop-rest : goal.decreases-loop-rest
decreases-loop-rest l = length l.rest

abbrev pub invariant-loop-rest : goal.invariant-loop-rest
invariant-loop-rest l = distinct l.low l.high l.rest ≡ distinct l.low l.high l.list
