use Rattle.std.proofs.Common.{◌≡◌, ◌<◌, ◌≤◌, None, sym, subst, ⊎_elim, arith, rules}
use borrow.Author.Tests.{tests}
use Rattle.std.proofs.lemmas.Bool.{cases_lt}
use Rattle.format.specs.Form.{wrong}
use Rattle.format.specs.Kinds.{form_at}
use Rattle.sheet.specs.Acting.{line_fits, parts_early, parts_late}
use Rattle.sheet.specs.Firsts.{some_none}
use Rattle.sheet.specs.Passing.{frame_short}
use Rattle.sheet.proofs.read.ReadSheet.frame.Goals as goal

pub returns-then-not-contains-clause-parts : goal.returns-then-not-contains-clause-parts
returns-then-not-contains-clause-parts c =
    let s = c.args.self.now in
    ⊎_elim
    (λ h. parts_early _ _ s.counted _ s.read s.many c.args.line h)
    (λ h. parts_late _ _ s.counted _ s.read s.many c.args.line (search (rules, tests)))
    (cases_lt c.args.line 2)

pub read_frame-requires : goal.read_frame-requires
read_frame-requires c =
    let s = c.args.self.now in
    let e = c.frame_at.ensures in
    let l : c.args.line < s.lines = search (rules, tests) in
    let f : 2 ≤ c.args.line = search (rules, tests) in
    (rw e (frame_short _ s.counted.sound c.args.line (omega (arith, s.counted.few))), (omega (arith, s.many), f))

pub unreachable-requires : goal.unreachable-requires
unreachable-requires c =
    let s = c.args.self.now in
    let f = c.in-Err.ensures in
    some_none f.index _ f.first
    (subst (λ b. wrong 0 (form_at s.head s.lines c.args.line) b ≡ None) (sym c.frame_at.ensures)
    (line_fits _ _ s.counted _ s.read s.many c.args.line (search (rules, tests)) (search (rules, tests))))
