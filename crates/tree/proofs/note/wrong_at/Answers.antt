use Rattle.std.proofs.Common.{is_some, sym, refl, ap, ◌∙◌}
use Rattle.heads.specs.declared.head.Head.{Head}
use Rattle.protocol.specs.Machine.{Protocol}
use Rattle.tree.specs.Walks.{playing}
use Rattle.tree.proofs.Noting.{some_wrong}
use Rattle.tree.proofs.note.wrong_at.Goals as goal

pub returns-in-Some : goal.returns-in-Some
returns-in-Some g c =
    λ bank.
    let p : Protocol = playing c.args.script.now (g.D.Deck.means c.args.deck.now) bank in
    let h = sym c.head-head.ensures in
    let w = c.first_wrong.ensures p c.args.line (record { players_are = ap (λ (x : Head). x.players) h; function_is = ap (λ (x : Head). x.function) h }) (ap (λ (x : Head). x.cards) h) refl (sym c.in-Some.ensures) in
    c.is_some.ensures ∙ some_wrong c.first_wrong.result ∙ ap is_some w
