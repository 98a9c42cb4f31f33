use Rattle.std.proofs.Common.{arith, rules}
use Rattle.format.proofs.Shuffling.{slots_broken}
use Rattle.format.proofs.cursor.Cursor.piled.Goals as goal

pub returns-in-len1-up : goal.returns-in-len1-up
returns-in-len1-up c = slots_broken c.args.cards c.args.self.now (search rules) (search rules) (λ k. grind (rules, arith))
