use Rattle.std.proofs.Common.{rules}
use Rattle.format.proofs.Bytes.{not_ended}
use Rattle.format.proofs.parts.at_end.Goals as goal

pub returns-in_default : goal.returns-in_default
returns-in_default c = not_ended c.args.from c.args.bytes.now c.args.line (search rules)
