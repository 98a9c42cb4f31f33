use Rattle.std.proofs.Common.{◌≡◌, true, false, rules}
use borrow.Author.Tests.{tests}
use Rattle.std.proofs.lemmas.Iterator.{first_from_Range}
use Rattle.cards.specs.Lists.{member}
use Rattle.sheet.proofs.Results.{member_any, missing_found}
use Rattle.sheet.proofs.passes.find_missing.Goals as goal

pub returns : goal.returns
returns c =
    missing_found c.args.players c.args.codes.now c.find.result
    (first_from_Range _ c.find.new.self _ c.find.result (λ x. member x c.args.codes.now ≡ false) (λ x. member x c.args.codes.now ≡ true) c.find.ensures.ran
    (λ x q k. let m = member_any x c.args.codes.now in search (rules, tests))
    (λ x q k. let m = member_any x c.args.codes.now in search (rules, tests)))
