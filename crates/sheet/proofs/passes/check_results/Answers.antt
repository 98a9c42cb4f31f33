use Rattle.std.proofs.Common.{◌≡◌, true, false, Some, None, rules}
use borrow.Author.Tests.{tests}
use Rattle.std.proofs.lemmas.Iterator.{first_from_Range}
use Rattle.sheet.specs.Verdicts.{differs}
use Rattle.sheet.proofs.Results.{results_found}
use Rattle.sheet.proofs.passes.check_results.Goals as goal

pub returns-in-Some : goal.returns-in-Some
returns-in-Some c =
    results_found c.args.bytes.now c.args.lines (Some c.in-Some.line)
    (first_from_Range _ c.find.new.self _ (Some c.in-Some.line) (λ x. differs c.args.bytes.now x ≡ true) (λ x. differs c.args.bytes.now x ≡ false)
    c.in-Some.ensures.ran (λ x q k. search (rules, tests)) (λ x q k. search (rules, tests)))

pub returns-in-None : goal.returns-in-None
returns-in-None c =
    results_found c.args.bytes.now c.args.lines None
    (first_from_Range _ c.find.new.self _ None (λ x. differs c.args.bytes.now x ≡ true) (λ x. differs c.args.bytes.now x ≡ false)
    c.in-None.ensures.ran (λ x q k. search (rules, tests)) (λ x q k. search (rules, tests)))
