use Rattle.std.proofs.Common.{rules}
use Rattle.format.proofs.Orders.{alone}
use Rattle.format.proofs.rule.+stands_before.Goals as goal

pub returns-in-len1-up-empty : goal.returns-in-len1-up-empty
returns-in-len1-up-empty t c = alone c.args.previous.now c.args.before.now c.args.b (search rules) (search rules)
