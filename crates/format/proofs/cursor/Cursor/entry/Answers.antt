use Rattle.std.proofs.Common.{◌≡◌, [], ◌-◌, rules}
use Rattle.format.specs.Form.{listed}
use Rattle.format.specs.Kinds.{from_to, distinct_rule}
use Rattle.format.proofs.Joining.{byte_passed}
use Rattle.format.proofs.cursor.Cursor.entry.Goals as goal

pub returns : goal.returns
returns c =
    let q = c.args.slots in
    let e : c.from.result ≡ q = search rules in
    let part = λ (b : _). listed q (distinct_rule 0 (q - 1)) [] in
    (_, byte_passed (from_to 1 255) part (search rules) c.in_ok-byte.ensures.1 (rw e at c.in_ok-list.ensures.passed))
