use Rattle.std.proofs.Common.{length, sym, ap, arith}
use Rattle.sheet.specs.Splitting.{walked_none, walked_end}
use Rattle.sheet.proofs.Stepping.{line_bad, line_good}
use Rattle.sheet.proofs.lines.count_lines.Goals as goal

pub loop-line-init : goal.loop-line-init
loop-line-init c = (omega arith, rw (c.into_iter-line-iterator.ensures.into_iter_gives, c.new-line-items.ensures) (walked_none _))

pub returns-then-fails : goal.returns-then-fails
returns-then-fails c =
    line_bad _ c.loop-line.lines c.loop-line.line-iterator _ _ c.loop-line.invariant.1 c.in-Some.ensures.steps c.loop-line.invariant.0 (sym c.if-fails.ensures)

pub loop-line-preserved : goal.loop-line-preserved
loop-line-preserved c =
    let g = line_good _ c.loop-line.lines c.loop-line.line-iterator _ _ c.loop-line.invariant.1 c.in-Some.ensures.steps (sym c.if-fails.ensures) in
    (omega arith, g.1)

pub returns : goal.returns
returns c = walked_end _ c.loop-line.lines _ c.loop-line.invariant.0 c.loop-line.invariant.1 (ap length c.in-None.ensures.steps.0)
