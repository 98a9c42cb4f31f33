use Rattle.std.proofs.Common.{◌≡◌, ◌*◌, ◌≤◌, max, true, get_or, sym, ap, ◌∙◌, arith, rules}
use Rattle.std.proofs.lemmas.Grind.{common_steps}
use Rattle.sheet.specs.Products.{total, leads, limit}
use Rattle.sheet.specs.Scripts.{action}
use Rattle.sheet.specs.Actions.{shows}
use Rattle.sheet.proofs.Multiplying.{best_leads}
use Rattle.sheet.proofs.read.ReadSheet.arrival.Goals as goal

pub loop-from-preserved-then-leads_to : goal.loop-from-preserved-then-leads_to
loop-from-preserved-then-leads_to c =
    let s = c.in-Some.ensures.steps in
    let act = action c.args.self.now.bytes.now in
    let from = c.loop-from.from-iterator.a.start in
    let at : c.in-Some.product.now ≡ get_or c.args.arrived.now from 0 = grind (arith, common_steps) in
    let a : shows c.action-action.result ≡ act from = c.action-action.ensures ∙ ap act s.0.1.1 in
    let t : c.from.result ≡ total (act from) = c.from.ensures ∙ (c.total.ensures ∙ ap total a) in
    let l : leads (act from) c.args.line ≡ true = ap (λ a. leads a c.args.line) (sym a) ∙ sym c.if-leads_to.ensures in
    let m : c.max-most.result ≡ max c.loop-from.most (c.in-Some.product.now * c.from.result) = search rules in
    let n : c.max-most.result ≡ max c.loop-from.most (get_or c.args.arrived.now from 0 * total (act from)) = rw (← at, ← t) m in
    let b : get_or c.args.arrived.now from 0 * total (act from) ≤ limit = c.requires.arrived_len.1 from (omega arith) in
    record {
      ends = search rules;
      within = omega arith;
      left = grind (arith, common_steps);
      most = rw s.0.1.2 (n ∙ best_leads act c.args.arrived.now c.args.line from _ c.loop-from.invariant.most l);
      small = rw n (omega (arith, b, c.loop-from.invariant.small));
    }
