use Rattle.std.proofs.Common.{length, Ok, Err, Result, ap, ◌∙◌}
use Rattle.std.proofs.lemmas.Result.{err_from_is_err_and}
use Rattle.protocol.specs.Machine.{Protocol, inputs}
use Rattle.tree.specs.declared.certificate.Certificate.{Certificate}
use Rattle.tree.specs.declared.fault.TreeFault.{TreeFault}
use Rattle.tree.specs.Walks.{playing, answer_view}
use Rattle.line_parts.proofs.Acting.{lawful}
use Rattle.tree.proofs.Rooting.{certified}
use Rattle.tree.proofs.certifying.certify_rows.Goals as goal

pub returns-in_err-walk_rows-clause-answer : goal.returns-in_err-walk_rows-clause-answer
returns-in_err-walk_rows-clause-answer g c =
    let p : Protocol = playing c.args.script.now (g.D.Deck.means c.args.deck.now) (g.B.Bank.at c.args.bank.now) in
    let exit = err_from_is_err_and c.from_residual.result c.from_residual.ensures.1 in
    let fault : TreeFault = c.in_err-walk_rows.field-0.0 in
    let err : TreeFault → Result Certificate TreeFault = λ f. Err f in
    ap (answer_view (inputs p)) (exit.1 ∙ ap err exit.2)
    ∙ certified p (length c.args.bench.now) c.blank-certificate.result c.walk_rows.new.visitor (Err fault) (lawful c.args.script.now).few_players c.blank-certificate.ensures c.in_err-walk_rows.ensures.walked

pub returns-clause-answer : goal.returns-clause-answer
returns-clause-answer g c =
    let p : Protocol = playing c.args.script.now (g.D.Deck.means c.args.deck.now) (g.B.Bank.at c.args.bank.now) in
    certified p (length c.args.bench.now) c.blank-certificate.result c.walk_rows.new.visitor (Ok c.in_ok-walk_rows.field-0) (lawful c.args.script.now).few_players c.blank-certificate.ensures c.in_ok-walk_rows.ensures.walked
