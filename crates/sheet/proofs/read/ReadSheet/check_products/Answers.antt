use Rattle.std.proofs.Common.{◌≡◌, ◌*◌, ◌<◌, ◌≤◌, sym, ap, ◌∙◌, subst, mul-one, arith}
use Rattle.sheet.specs.Products.{total, shuffles, arrival, limit}
use Rattle.sheet.specs.Scripts.{action}
use Rattle.sheet.proofs.Multiplying.{ahead_none, ahead_more, ahead_fault, one_draw}
use Rattle.sheet.proofs.read.ReadSheet.check_products.Goals as goal
use Rattle.sheet.proofs.read.ReadSheet.check_products.Goals.{else-is_shuffle-via-then-is_shuffle+else-most-from-gt-LIMIT, else-is_shuffle-via-else-is_shuffle}

pub loop-line-init : goal.loop-line-init
loop-line-init c = ahead_none _ _ c.new-arrived.ensures

pub returns-then-most-from-gt-LIMIT : goal.returns-then-most-from-gt-LIMIT
returns-then-most-from-gt-LIMIT c =
    let bytes = c.args.self.now.bytes.now in
    let a = c.action-action.ensures in
    let t : c.from.result ≡ total (action bytes c.loop-line.line) = c.from.ensures ∙ (c.total.ensures ∙ ap total a) in
    let k : limit < c.arrival-most.result * c.from.result = omega arith in
    ahead_fault bytes c.loop-line.line c.args.self.now.lines _ _ c.loop-line-test.true c.loop-line.invariant
    (c.arrival-most.ensures.value ∙ ap (arrival (action bytes) c.loop-line.line) c.as_slice.ensures.value)
    (ap shuffles (sym a) ∙ sym c.if-is_shuffle.ensures)
    (subst (λ x. limit < c.arrival-most.result * x) t k)

pub loop-line-preserved : goal.loop-line-preserved
loop-line-preserved c =
    let bytes = c.args.self.now.bytes.now in
    let a = c.action-action.ensures in
    ahead_more bytes c.loop-line.line _ _ _ c.loop-line.invariant
    (c.arrival-most.ensures.value ∙ ap (arrival (action bytes) c.loop-line.line) c.as_slice.ensures.value)
    (elim c.else-is_shuffle.branch [
      | else-is_shuffle-via-then-is_shuffle+else-most-from-gt-LIMIT w ↦
          let t : w.from.result ≡ total (action bytes c.loop-line.line) = w.from.ensures ∙ (w.total.ensures ∙ ap total a) in
          let k : c.arrival-most.result * w.from.result ≤ limit = omega arith in
          subst (λ x. c.arrival-most.result * x ≤ limit) t k
      | else-is_shuffle-via-else-is_shuffle w ↦
          rw (one_draw (action bytes c.loop-line.line) (ap shuffles (sym a) ∙ sym w.if-is_shuffle.ensures), mul-one)
          c.arrival-most.ensures.bound
    ])
    c.push.ensures.items
