use Rattle.std.proofs.Common.{rules}
use Rattle.std.proofs.lemmas.Result.{err_from_is_err_and}
use Rattle.format.proofs.Listing.{reached_more, broken_next}
use Rattle.format.proofs.cursor.Cursor.list.Goals as goal

pub returns-in_err-byte : goal.returns-in_err-byte
returns-in_err-byte g c =
    let p = err_from_is_err_and c.from_residual.result c.from_residual.ensures.1 in
    rw (p.1, p.2) (broken_next _ _ _ _ _ _ c.loop-i-test.true (search rules) c.loop-i.invariant)

pub loop-i-preserved : goal.loop-i-preserved
loop-i-preserved g c = reached_more _ _ _ _ _ _ _ c.loop-i-test.true c.in_ok-byte.ensures.1 (search rules) c.loop-i.invariant
