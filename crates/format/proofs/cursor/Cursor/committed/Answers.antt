use Rattle.std.proofs.Common.{rules}
use Rattle.std.proofs.lemmas.Result.{err_from_is_err_and}
use Rattle.format.specs.Kinds.{committed_form}
use Rattle.format.proofs.Joining.{come_none, come_byte, no_byte_here}
use Rattle.format.proofs.cursor.Cursor.committed.Goals as goal

pub returns-in_err-right : goal.returns-in_err-right
returns-in_err-right c =
    let p = err_from_is_err_and c.from_residual-in_err-right.result c.from_residual-in_err-right.ensures.1 in
    let left = come_byte (search rules) c.in_ok-left.ensures.1 (come_none (committed_form c.args.cards) c.args.self.now) in
    rw (p.1, p.2) (no_byte_here (search rules) left)
