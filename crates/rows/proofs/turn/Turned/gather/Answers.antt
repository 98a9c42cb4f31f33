use Rattle.std.proofs.Common.{◌≡◌, ℕ, ◌+◌, ◌≤◌, Bool, eqb, List, length, get_or, take, set, sym, ap, ◌∙◌, subst}
use lib.Pointwise.{pointwise}
use Rattle.protocol.specs.Machine.{same}
use Rattle.protocol.specs.States.{Row, shows, is_shown, total_of}
use Rattle.rows.specs.declared.row.Row as code
use Rattle.rows.specs.Views.{row_view, rows_view}
use Rattle.rows.proofs.Dictionary.{same_is}
use Rattle.rows.proofs.Runs.{past}
use Rattle.rows.proofs.Gathered.{Copied, copied_yes, copied_no, copied_full, copied_all, kept_total}
use Rattle.rows.proofs.turn.Turned.gather.Goals as goal
use Rattle.rows.proofs.turn.Turned.gather.Goals.{then-eq+else-len-room, else-eq}

-- what the code compares is whether the row shows the marks
tested : (n : ℕ) (places marks written : List ℕ) (x : Row) (answer : Bool) → answer ≡ pointwise eqb (take (length places) written) (take (length places) marks) → take (length places) written ≡ shows n places x → is_shown n places (take (length places) marks) x ≡ answer
tested n places marks written x answer e f =
    sym (e ∙ same_is (take (length places) written) (take (length places) marks) ∙ ap (λ (m : List ℕ). same m (take (length places) marks)) f)

pub returns-then-len-room-clause-put : goal.returns-then-len-room-clause-put
returns-then-len-room-clause-put c =
    let places : List ℕ = c.args.self.now.places.now in
    copied_full (is_shown c.args.self.now.state.cards places (take (length places) c.args.marks)) c.args.self.now.state.rows.now c.loop-row.row-index c.loop-row.len c.loop-row.room c.args.room.now c.loop-row.invariant c.loop-row-test.true c.if-len-room.true
    (tested c.args.self.now.state.cards places c.args.marks c.shown-shows.result (row_view (get_or c.args.self.now.state.rows.now c.loop-row.row-index past)) c.eq.result c.eq.ensures c.shown-shows.ensures.shown ∙ c.if-eq.true)

pub loop-row-preserved : goal.loop-row-preserved
loop-row-preserved c =
    let places : List ℕ = c.args.self.now.places.now in
    let rows : List code.Row = c.args.self.now.state.rows.now in
    let i : ℕ = c.loop-row.row-index in
    let test : Row → Bool = is_shown c.args.self.now.state.cards places (take (length places) c.args.marks) in
    let is = tested c.args.self.now.state.cards places c.args.marks c.shown-shows.result (row_view (get_or rows i past)) c.eq.result c.eq.ensures c.shown-shows.ensures.shown in
    elim c.if-eq.branch [
      | then-eq+else-len-room w ↦
          subst (λ (xs : List code.Row). Copied test rows (i + 1) c.if-eq.len xs c.args.room.now) (sym w.room-is)
          (subst (λ (k : ℕ). Copied test rows (i + 1) k (set c.loop-row.room c.loop-row.len (get_or rows i past)) c.args.room.now) (sym w.len-is)
          (copied_yes test rows i c.loop-row.len c.loop-row.room c.args.room.now c.loop-row.invariant c.loop-row-test.true w.if-len-room.false (is ∙ w.if-eq.true)))
      | else-eq w ↦
          subst (λ (xs : List code.Row). Copied test rows (i + 1) c.if-eq.len xs c.args.room.now) (sym w.room-is)
          (subst (λ (k : ℕ). Copied test rows (i + 1) k c.loop-row.room c.args.room.now) (sym w.len-is)
          (copied_no test rows i c.loop-row.len c.loop-row.room c.args.room.now c.loop-row.invariant c.loop-row-test.true (is ∙ w.if-eq.false)))
    ]

pub returns-clause-totals : goal.returns-clause-totals
returns-clause-totals c =
    λ len b e.
    let test : Row → Bool = is_shown c.args.self.now.state.cards c.args.self.now.places.now (take (length c.args.self.now.places.now) c.args.marks) in
    let w = copied_all test c.args.self.now.state.rows.now c.loop-row.row-index c.loop-row.len c.loop-row.room c.args.room.now c.loop-row.invariant c.loop-row-test.false in
    let same : c.loop-row.len ≡ len = cc in
    subst (λ (k : ℕ). total_of b (rows_view (take k c.loop-row.room)) ≤ total_of b (rows_view c.args.self.now.state.rows.now)) same
    (subst (λ (xs : List Row). total_of b xs ≤ total_of b (rows_view c.args.self.now.state.rows.now)) (sym w.here) (kept_total test c.args.self.now.state.rows.now b))
