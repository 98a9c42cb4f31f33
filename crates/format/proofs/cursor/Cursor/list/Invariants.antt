use Rattle.format.proofs.Listing.{Reached}
use Rattle.format.proofs.cursor.Cursor.list.Given as goal

abbrev pub invariant-loop-i : goal.invariant-loop-i
invariant-loop-i g l = Reached (g.R.Rule.test l.rule) l.count l.fn.self l.i-counter l.after
