use Rattle.std.proofs.Common.{◌≡◌, ℕ, ◌+◌, ◌<◌, ◌≤◌, true, false, length, Option, sym, ap, ◌∙◌, subst, ⊎_elim, arith, rules, MatchOption}
use Rattle.std.proofs.lemmas.Bool.{and_left, and_right, and_from, lt-leb, le-leb, cases_lt}
use Rattle.cards.specs.Shuffles.{entries_of, weights, sound_entries, counted}
use Rattle.shuffles.specs.Entries.{Split, splitting, short_entry, split_light, split_mixed, split_good, split_weights, entries_none}
use Rattle.shuffles.proofs.explicit.total_of.Goals as goal
use Rattle.shuffles.proofs.explicit.total_of.Goals.{After-split_at, then-weight-eq0-via-then-weight-eq0, then-weight-eq0-via-else-weight-eq0+then-not-all_distinct}

apart : (c : After-split_at) → Split c.args.slots c.loop-rest.rest.now c.split_at.result.0.now c.split_at.result.1.now
apart c =
    let some : 0 < length c.loop-rest.rest.now = search rules in
    splitting _ c.from-width.result _ _ _ some c.from-width.ensures c.if-others-width.false c.split_at.ensures.front c.split_at.ensures.back

pub returns-then-others-width : goal.returns-then-others-width
returns-then-others-width c =
    let some : 0 < length c.loop-rest.rest.now = search rules in
    and_left _ _ (sym c.loop-rest.invariant.0 ∙ short_entry _ _ _ some c.from-width.ensures c.if-others-width.true)

pub returns-then-weight-eq0 : goal.returns-then-weight-eq0
returns-then-weight-eq0 c =
    let s = apart (goal.at.returns-then-weight-eq0 c).After-split_at in
    and_left _ _
    (sym c.loop-rest.invariant.0
    ∙ elim c.then-weight-eq0.branch [
      | then-weight-eq0-via-then-weight-eq0 w ↦ split_light _ _ _ _ s w.if-weight-eq0.true
      | then-weight-eq0-via-else-weight-eq0+then-not-all_distinct w ↦ split_mixed _ _ _ _ s (sym w.all_distinct.ensures ∙ w.if-not-all_distinct.true)
    ])

pub returns-in_err-total : goal.returns-in_err-total
returns-in_err-total c =
    let s = apart (goal.at.returns-in_err-total c).After-split_at in
    let q = c.args.slots in
    let all = entries_of q c.args.entries.now in
    let big : 65535 < weights all = ⊎_elim (λ lt. absurd (c.in_err-total.ensures lt)) (λ ge. omega (arith, ge, split_weights _ _ _ _ s, c.loop-rest.invariant.1, c.from.ensures)) (cases_lt (c.loop-rest.total + c.from.result) 65536) in
    subst (λ (r : Option ℕ). MatchOption r (counted q all ≡ false) (λ t. (counted q all ≡ true) × (t ≡ weights all))) (sym c.from_residual.ensures) (and_right _ _ (lt-leb _ _ big))

pub loop-rest-preserved : goal.loop-rest-preserved
loop-rest-preserved c =
    let s = apart (goal.at.loop-rest-preserved c).After-split_at in
    let e = split_weights _ _ _ _ s in (
      sym (split_good _ _ _ _ s c.if-weight-eq0.false (sym c.all_distinct.ensures ∙ c.if-not-all_distinct.false)) ∙ c.loop-rest.invariant.0,
      omega (arith, e, c.loop-rest.invariant.1, c.from.ensures, c.in_ok-total.ensures),
      omega (arith, c.in_ok-total.ensures),
    )

pub returns : goal.returns
returns c =
    let none : length c.loop-rest.rest.now ≤ 0 = search rules in
    let e = entries_none c.args.slots _ none in
    let w : c.loop-rest.total ≡ weights (entries_of c.args.slots c.args.entries.now) = omega (arith, ap weights e, c.loop-rest.invariant.1) in
    (and_from _ _ (sym c.loop-rest.invariant.0 ∙ ap (sound_entries c.args.slots) e) (le-leb _ _ (omega (arith, w, c.loop-rest.invariant.2))), w)
