use Rattle.std.proofs.Common.{◌≡◌, false, get_or, drop, rules}
use Rattle.std.proofs.lemmas.Result.{err_from_is_err_and}
use Rattle.std.specs.Result.{is_ok}
use Rattle.heads.specs.declared.fault.SheetFault.TheVariants.{Byte}
use Rattle.format.proofs.Kinding.{kind_wrong, no_kind}
use Rattle.format.proofs.read.read_frame.Goals as goal

pub returns-in_err-map_err : goal.returns-in_err-map_err
returns-in_err-map_err c =
    let h = c.args.head.now in
    let b = get_or c.args.bytes.now 0 0 in
    let p = err_from_is_err_and c.from_residual.result c.from_residual.ensures.1 in
    let f : c.in_err-map_err.field-0.0 ≡ Byte c.args.line 0 = search rules in
    let i : is_ok c.try_from.result ≡ false = search rules in
    let u = no_kind h c.args.lines c.args.line c.requires.1.1 b c.try_from.result c.try_from.ensures i in
    rw (p.1, p.2, f) (kind_wrong h c.args.lines c.args.line c.requires.1.1 b c.args.bytes.now (drop 1 c.args.bytes.now) (search rules) u)
