use Rattle.std.proofs.Common.{◌<◌, ◌≤◌, sym, ◌∙◌, rules, arith}
use Rattle.std.proofs.lemmas.Bool.{lt-ltb, le-leb}
use Rattle.format.proofs.Powers.{bits_few, shifted, wide}
use Rattle.format.proofs.rule.function_fits.Goals as goal

pub overflow_shl-result-else-players-ge3 : goal.overflow_shl-result-else-players-ge3
overflow_shl-result-else-players-ge3 c = bits_few c.args.players (omega (arith, c.if-players-ge3.false))

pub returns-then-players-ge3 : goal.returns-then-players-ge3
returns-then-players-ge3 c =
    let k : 3 ≤ c.args.players = search rules in
    let b : c.args.b < 256 = search rules in
    le-leb _ _ k ∙ sym (lt-ltb _ _ (wide c.args.players c.args.b k b))

pub returns-else-players-ge3 : goal.returns-else-players-ge3
returns-else-players-ge3 c =
    let e = shifted c.args.players (omega (arith, c.if-players-ge3.false)) in rw e (search rules)
