use Rattle.std.proofs.Common.{◌≡◌, rules}
use Rattle.std.proofs.lemmas.Bool.{ne_eqb}
use Rattle.heads.specs.declared.kind.Kind.TheVariants.{Committed, Open}
use Rattle.sheet.specs.Verdicts.{kind_at}
use Rattle.sheet.proofs.passes.result_at.Goals as goal

pub returns-in-Err : goal.returns-in-Err
returns-in-Err c =
    let d = c.in-Err.ensures in
    let byte = c.in_ok-first.field-0.now in
    let e : kind_at c.args.bytes.now c.args.line ≡ byte = search rules in
    rw (e, ne_eqb byte 0x30 (d.1 Committed), ne_eqb byte 0x31 (d.1 Open))
