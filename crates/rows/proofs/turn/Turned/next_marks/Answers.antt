use Rattle.std.proofs.Common.{List, length, sym, ap, ◌∙◌}
use Rattle.std.proofs.lemmas.List.{drop_all}
use Rattle.rows.specs.declared.row.Row as code
use Rattle.rows.specs.Views.{rows_view}
use Rattle.rows.proofs.Children.{pick, held, next_is}
use Rattle.rows.proofs.turn.Turned.next_marks.Goals as goal

pub returns : goal.returns
returns c =
    next_is c.args.self.now.state.cards c.args.self.now.places.now c.args.last c.loop-row.least (rows_view c.args.self.now.state.rows.now)
    (ap (λ (xs : List code.Row). pick c.args.self.now.state.cards c.args.self.now.places.now (held c.args.self.now.state.cards c.args.self.now.places.now (length c.args.self.now.places.now) c.args.last) (held c.args.self.now.state.cards c.args.self.now.places.now (length c.args.self.now.places.now) c.loop-row.least) (rows_view xs)) (sym (drop_all c.loop-row.row-index c.args.self.now.state.rows.now c.loop-row-test.false))
    ∙ c.loop-row.invariant)
