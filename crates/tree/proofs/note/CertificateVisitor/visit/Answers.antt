use Rattle.std.proofs.Common.{◌≡◌, ℕ, suc, Bool, true, false, List, sym, refl, ap, ◌∙◌, add-one}
use Rattle.std.specs.Bool.{then_some}
use Rattle.std.specs.Option.{option_or}
use Rattle.heads.specs.declared.head.Head.{Head}
use Rattle.protocol.specs.Machine.{Protocol, inputs}
use Rattle.protocol.specs.States.{Row}
use Rattle.protocol.specs.Tree.{noted, noted_number}
use Rattle.rows.specs.Views.{rows_view}
use Rattle.rows.specs.Nodes.{output_of}
use Rattle.tree.specs.declared.certificate.Certificate.{Certificate}
use Rattle.tree.specs.Certificates.{view}
use Rattle.tree.specs.Walks.{playing, node_at}
use Rattle.tree.proofs.Noting.{same_certificate}
use Rattle.tree.proofs.note.CertificateVisitor.visit.Goals as goal

-- the number of a node where something is found
noted_here : (t : Bool) (n : ℕ) → then_some t n ≡ noted_number t n
noted_here true n = refl
noted_here false n = refl

pub returns : goal.returns
returns g c =
    λ bank goal trace e f.
    let p : Protocol = playing c.args.script.now (g.D.Deck.means c.args.deck.now) bank in
    let rows : List Row = rows_view c.args.node.rows.now in
    let before : Certificate = c.args.self.now in
    let number : ℕ = c.args.node.number in
    let h = sym c.head-head.ensures in
    let leak = c.leaks-leaking.ensures p rows (record { players_are = ap (λ (x : Head). x.players) h; function_is = ap (λ (x : Head). x.function) h }) (ap (λ (x : Head). output_of x.output) h) c.requires.totals_are in
    same_certificate _ (noted p (node_at number c.args.node.line goal rows trace) (view (inputs p) before))
    (add-one number ∙ ap suc (sym f))
    (c.or-self.ensures ∙ ap (option_or before.wrong) (c.then_some.ensures ∙ noted_here _ number ∙ ap (λ (t : Bool). noted_number t number) (c.wrong_at-wrong.ensures bank)))
    (c.or-self-2.ensures ∙ ap (option_or before.leaking) (c.then_some-2.ensures ∙ noted_here _ number ∙ ap (λ (t : Bool). noted_number t number) leak))
    (c.classes_at-self.ensures p.deck bank rows c.requires.totals_are)
