use Rattle.std.proofs.Common.{Bool, cond, take, sym, ap, ◌∙◌}
use Rattle.protocol.specs.Machine.{Protocol, inputs}
use Rattle.protocol.specs.Tree.{divided}
use Rattle.tree.specs.Certificates.{class_list}
use Rattle.tree.specs.Walks.{playing}
use Rattle.tree.proofs.Dividing.{divided_view}
use Rattle.tree.proofs.Noting.{is_outcome}
use Rattle.tree.proofs.note.classes_at.Goals as goal

pub returns-then-is_some : goal.returns-then-is_some
returns-then-is_some c =
    λ deck bank rows f.
    let p : Protocol = playing c.args.script.now deck bank in
    divided_view c.args.classes rows p c.requires.lawful.few_players c.args.sums.now (class_list c.divide.result) c.divide.ensures f
    ∙ ap (λ (t : Bool). cond t (divided p rows (take (inputs p) (class_list c.args.classes))) (take (inputs p) (class_list c.args.classes))) (sym c.if-is_some.true ∙ c.is_some.ensures ∙ is_outcome _ _ c.outcome_at.ensures)
