use Rattle.std.proofs.Common.{◌≡◌, ℕ, suc, pred, ◌+◌, ◌-◌, ◌*◌, ◌<◌, ◌≤◌, List, ◌++◌, map, length, take, None, Ok, Err, Option, Result, sym, refl, ap, ◌∙◌, subst, arith, rules}
use Rattle.std.proofs.lemmas.List.{length-take}
use Rattle.std.proofs.lemmas.Result.{err_from_is_err_and}
use Rattle.std.specs.Option.{ok_or}
use Rattle.std.specs.List.{AllByRecursion}
use Rattle.heads.specs.declared.head.Head.{Head}
use Rattle.script.specs.Model.{Branch, shuffle}
use Rattle.line_parts.proofs.Acting.{permute_places}
use Rattle.protocol.specs.Machine.{Protocol, shuffling}
use Rattle.protocol.specs.States.{Row, Child, children}
use Rattle.rows.specs.Turns.{rows_after, later, child_of}
use Rattle.rows.specs.Views.{rows_view}
use Rattle.sheet.specs.declared.states.CheckedScript.{CheckedScript}
use Rattle.sheet.specs.Scripts.{branches_of}
use Rattle.sheet.specs.Sheets.{script}
use Rattle.tree.specs.declared.fault.TreeFault.{TreeFault}
use Rattle.tree.specs.Walks.{playing, counted, Reached, Held, Made, Below}
use Rattle.tree.proofs.Going.{on_kept, has_room}
use Rattle.tree.proofs.Growing.{made_many, made_none, grown_below, below_result}
use Rattle.tree.proofs.Turning.{turn_facts, next_none, next_some, turned_on, below_turned, below_refused, below_missing}
use Rattle.tree.proofs.Entering.{permute_onward, shuffle_onward, turn_onward, branch_reached, entered_permute, entered_shuffle, entered_child, below_put}
use Rattle.tree.proofs.walk.Walk.+tree.Goals as goal

-- the refusal of marks without a branch
missed : (o : Option ℕ) {fault missing : TreeFault} → o ≡ None → Err fault ≡ ok_or o missing → fault ≡ missing
missed o {fault} {missing} e v = let w : ◌≡◌ {A = Result ℕ TreeFault} (Err fault) (Err missing) = v ∙ ap (λ (x : Option ℕ). ok_or x missing) e in cc

pub below-returns-in-Committed-clause-walked : goal.below-returns-in-Committed-clause-walked
below-returns-in-Committed-clause-walked g t c =
    below_result g.V.Visitor.visits (playing c.args.self.now.script.now (g.D.Deck.means c.args.self.now.deck.now) (g.B.Bank.at c.args.self.now.bank.now)) c.args.line (rows_view c.args.rows.now) (length c.args.rest.now) c.args.self.now.trace.items c.args.self.now.nodes c.args.self.now.visitor.now c.action.result c.action.ensures c.in-Committed.is

pub enter-returns-then-self-ge512-clause-walked : goal.enter-returns-then-self-ge512-clause-walked
enter-returns-then-self-ge512-clause-walked g t c =
    λ rows h. made_many g.V.Visitor.visits (playing c.args.self.now.script.now (g.D.Deck.means c.args.self.now.deck.now) (g.B.Bank.at c.args.self.now.bank.now)) c.args.line c.args.self.now.trace.items c.args.self.now.nodes c.args.self.now.visitor.now rows (length c.args.room.now) c.requires.entered.standing.there c.if-self-ge512.true

pub enter-returns-in_err-len-clause-walked : goal.enter-returns-in_err-len-clause-walked
enter-returns-in_err-len-clause-walked g t c =
    λ rows h.
    let exit = err_from_is_err_and c.from_residual.result c.from_residual.ensures.1 in
    let none : c.args.made ≡ None = c.in_err-len.ensures.ok_part in
    let k = subst (λ (o : Option ℕ). Held o rows c.args.room.now) none h in
    let err : TreeFault → Result (Unit {0}) TreeFault = λ f. Err f in
    subst (λ (r : Result (Unit {0}) TreeFault). Made g.V.Visitor.visits (playing c.args.self.now.script.now (g.D.Deck.means c.args.self.now.deck.now) (g.B.Bank.at c.args.self.now.bank.now)) c.args.line rows (length c.args.room.now) c.args.self.now.trace.items c.args.self.now.nodes c.args.self.now.visitor.now c.args.self.now.visitor.now (counted c.args.self.now.nodes r)) (sym (exit.1 ∙ ap err (exit.2 ∙ missed c.args.made none c.in_err-len.ensures.value)))
    (made_none g.V.Visitor.visits (playing c.args.self.now.script.now (g.D.Deck.means c.args.self.now.deck.now) (g.B.Bank.at c.args.self.now.bank.now)) c.args.line c.args.self.now.trace.items c.args.self.now.nodes c.args.self.now.visitor.now rows (length c.args.room.now) c.requires.entered.standing.there c.if-self-ge512.false k)

pub grow-returns-clause-walked : goal.grow-returns-clause-walked
grow-returns-clause-walked g t c =
    let rows : List Row = rows_view c.args.rows.now in
    let rest : ℕ = length c.args.rest.now in
    grown_below g.V.Visitor.visits (playing c.args.self.now.script.now (g.D.Deck.means c.args.self.now.deck.now) (g.B.Bank.at c.args.self.now.bank.now)) c.args.line c.args.self.now.trace.items c.args.self.now.nodes c.args.self.now.visitor.now rows rest c.hand_on.new.self.visitor.now c.below.new.self.visitor.now (counted c.below.new.self.nodes c.below.result) c.requires.arrived.standing.there c.requires.few
    (λ need trace b. c.hand_on.ensures.visited (g.B.Bank.at c.args.self.now.bank.now) need trace b)
    (subst (λ (n : ℕ). Below g.V.Visitor.visits (playing c.args.self.now.script.now (g.D.Deck.means c.args.self.now.deck.now) (g.B.Bank.at c.args.self.now.bank.now)) c.args.line rows rest c.args.self.now.trace.items n c.hand_on.new.self.visitor.now c.below.new.self.visitor.now (counted c.below.new.self.nodes c.below.result)) c.hand_on.ensures.counted
    (on_kept c.args.self.now c.hand_on.new.self c.hand_on.ensures.kept
    (λ s d b marks. Below g.V.Visitor.visits (playing s (g.D.Deck.means d) (g.B.Bank.at b)) c.args.line rows rest marks c.hand_on.new.self.nodes c.hand_on.new.self.visitor.now c.below.new.self.visitor.now (counted c.below.new.self.nodes c.below.result))
    c.below.ensures.walked))

pub below_marks-enter-walked-requires : goal.below_marks-enter-walked-requires
below_marks-enter-walked-requires g t c κs within =
    let falls : 8 * (256 - c.args.line) + 4 < t = (let m = c.decreases in omega arith) in (
      falls,
      (
        search rules,
        (
          search rules,
          (
            search rules,
            (
              entered_child c.args.self.now.script.now c.args.line (rows_view c.args.turned.state.rows.now) c.requires.reached c.gather-made.result _ c.args.rest.now c.gather-made.new.room c.gather-made.ensures.put c.gather-made.auto.room (λ m b f. c.gather-made.ensures.totals m b f),
              (let e = has_room c.try_extend_from_slice-added.result _ _ _ c.try_extend_from_slice-added.ensures.len c.try_extend_from_slice-added.ensures.err in let k = length-take (length c.args.turned.places.now) c.args.marks in let l = c.requires.long in omega arith),
            ),
          ),
        ),
      ),
    )

pub below-images_of-images-requires : goal.below-images_of-images-requires
below-images_of-images-requires g t c =
    permute_places c.args.self.now.script.now c.args.line c.in-Permute.places.now c.in-Permute.next (sym c.in-Permute.ensures)

pub below-enter-requires : goal.below-enter-requires
below-enter-requires g t c κs within =
    let rows : List Row = rows_view c.args.rows.now in
    let images : List ℕ = map pred c.in-Permute.places.now in
    let o = (permute_onward c.args.self.now.script.now c.args.line rows c.requires.arrived c.in-Permute.next images c.in-Permute.ensures).later in
    let there = c.requires.arrived.standing.there in
    let few = c.requires.arrived.standing.lawful.few_lines in
    let long = c.requires.long in
    let falls : 8 * (256 - c.in-Permute.next) + 4 < t = (let m = c.decreases in omega arith) in (
      falls,
      (
        search rules,
        (
          search rules,
          (
            search rules,
            (
              entered_permute c.args.self.now.script.now c.args.line rows c.requires.arrived c.in-Permute.next c.permute-made.result _ c.args.rest.now c.permute-made.new.room (c.permute-made.ensures.put images c.in-Permute.next c.images_of-images.ensures) c.permute-made.auto.room
                  images c.in-Permute.ensures (λ m b f k. c.permute-made.ensures.totals m b f k),
              omega arith,
            ),
          ),
        ),
      ),
    )

pub below-enter-requires-in-Shuffle : goal.below-enter-requires-in-Shuffle
below-enter-requires-in-Shuffle g t c κs within =
    let p : Protocol = playing c.args.self.now.script.now (g.D.Deck.means c.args.self.now.deck.now) (g.B.Bank.at c.args.self.now.bank.now) in
    let rows : List Row = rows_view c.args.rows.now in
    let o = (shuffle_onward c.args.self.now.script.now c.args.line rows c.requires.arrived c.in-Shuffle.next c.in-Shuffle.total c.in-Shuffle.ensures).later in
    let there = c.requires.arrived.standing.there in
    let few = c.requires.arrived.standing.lawful.few_lines in
    let long = c.requires.long in
    let falls : 8 * (256 - c.in-Shuffle.next) + 4 < t = (let m = c.decreases in omega arith) in (
      falls,
      (
        search rules,
        (
          search rules,
          (
            search rules,
            (
              entered_shuffle c.args.self.now.script.now c.args.line rows c.requires.arrived c.in-Shuffle.next c.shuffle-made.result _ c.args.rest.now c.shuffle-made.new.room
                  (c.shuffle-made.ensures.put p c.in-Shuffle.next (record { cards_are = ap (λ (x : Head). x.cards) (sym c.head-cards-in-Shuffle.ensures); bank_has = refl })) c.shuffle-made.auto.room
                  c.in-Shuffle.total c.in-Shuffle.ensures (λ m b f k. c.shuffle-made.ensures.totals m b f k),
              omega arith,
            ),
          ),
        ),
      ),
    )

pub below-returns-in-Shuffle-clause-walked : goal.below-returns-in-Shuffle-clause-walked
below-returns-in-Shuffle-clause-walked g t c =
    let p : Protocol = playing c.args.self.now.script.now (g.D.Deck.means c.args.self.now.deck.now) (g.B.Bank.at c.args.self.now.bank.now) in
    let rows : List Row = rows_view c.args.rows.now in
    below_put g.V.Visitor.visits p c.shuffle-made.result c.args.rest.now c.shuffle-made.new.room c.shuffle-made.auto.room c.args.self.now.trace.items c.args.self.now.nodes c.args.self.now.visitor.now c.enter-in-Shuffle.new.self.visitor.now (counted c.enter-in-Shuffle.new.self.nodes c.enter-in-Shuffle.result) c.args.line rows
    (shuffle c.in-Shuffle.total c.in-Shuffle.next) (shuffling p c.args.line c.in-Shuffle.total c.in-Shuffle.next) c.head-cards-in-Shuffle.result.cards c.in-Shuffle.ensures
    (shuffle_onward c.args.self.now.script.now c.args.line rows c.requires.arrived c.in-Shuffle.next c.in-Shuffle.total c.in-Shuffle.ensures).later
    (λ grow number need trace. refl)
    (ap (λ (x : Head). x.cards) c.head-cards-in-Shuffle.ensures)
    (c.shuffle-made.ensures.put p c.in-Shuffle.next (record { cards_are = ap (λ (x : Head). x.cards) (sym c.head-cards-in-Shuffle.ensures); bank_has = refl }))
    c.enter-in-Shuffle.ensures.walked

pub below_turn-invariant_of-turned-in-loop-marks : goal.below_turn-invariant_of-turned-in-loop-marks
below_turn-invariant_of-turned-in-loop-marks g t c =
    let f = turn_facts c.args.self.now.script.now c.args.line (rows_view c.args.rows.now) c.requires.arrived c.args.places.now (branches_of (length c.args.places.now) c.args.branches.now) c.requires.action in
    record {
      few = f.few;
      inside = subst (λ (x : Head). AllByRecursion (λ p. (1 ≤ p) × (p ≤ x.cards)) c.args.places.now) (sym c.head-cards.ensures) f.inside;
    }

pub below_turn-returns-in_err-next-clause-walked : goal.below_turn-returns-in_err-next-clause-walked
below_turn-returns-in_err-next-clause-walked g t c =
    let s : CheckedScript = c.args.self.now.script.now in
    let p : Protocol = playing s (g.D.Deck.means c.args.self.now.deck.now) (g.B.Bank.at c.args.self.now.bank.now) in
    let places : List ℕ = c.args.places.now in
    let branches : List Branch = branches_of (length places) c.args.branches.now in
    let rows : List Row = rows_view c.args.rows.now in
    let rest : ℕ = length c.args.rest.now in
    let shown : List ℕ = c.args.self.now.trace.items in
    let left : List Child = children (script s).cards places (rows_after (script s).cards places c.loop-marks.last rows) in
    let marks : List ℕ = take (length places) c.in-Some.marks in
    let child : Child = child_of (script s).cards places marks rows in
    let more : List Child = children (script s).cards places (later (script s).cards places marks rows) in
    let e = next_some c.head-cards.result.cards (script s).cards (ap (λ (x : Head). x.cards) c.head-cards.ensures) places rows c.loop-marks.last c.next_marks.result c.next_marks.ensures c.in-Some.marks c.in-Some.is in
    let n : c.args.self.now.nodes ≡ suc (c.args.self.now.nodes - 1) = (let k = c.requires.some in omega arith) in
    let none : c.target_of.result ≡ None = c.in_err-next.ensures.ok_part in
    let f = sym c.target_of.ensures ∙ none in
    let err : TreeFault → Result (Unit {0}) TreeFault = λ f. Err f in
    let exit = err_from_is_err_and c.from_residual.result c.from_residual.ensures.1 in
    subst (λ (r : Result (Unit {0}) TreeFault). Below g.V.Visitor.visits p c.args.line rows rest shown c.args.self.now.nodes c.args.self.now.visitor.now c.loop-marks.self.visitor.now (counted c.loop-marks.self.nodes r)) (sym (exit.1 ∙ ap err (exit.2 ∙ missed c.target_of.result none c.in_err-next.ensures.value)))
    (below_missing g.V.Visitor.visits p (c.args.self.now.nodes - 1) c.args.line rows branches rest shown (children (script s).cards places rows) c.args.self.now.nodes c.args.self.now.visitor.now left c.loop-marks.self.nodes c.loop-marks.self.visitor.now c.loop-marks.invariant.turned places c.requires.action refl n more child e f)

pub below_turn-below_marks-requires : goal.below_turn-below_marks-requires
below_turn-below_marks-requires g t c κs within =
    let s : CheckedScript = c.args.self.now.script.now in
    let places : List ℕ = c.args.places.now in
    let branches : List Branch = branches_of (length places) c.args.branches.now in
    let rows : List Row = rows_view c.args.rows.now in
    let marks : List ℕ = take (length places) c.in-Some.marks in
    let f = sym c.target_of.ensures ∙ c.in_ok-next.ensures.ok_part in
    let l = (turn_onward s c.args.line rows c.requires.arrived c.in_ok-next.next places branches marks c.requires.action f).later in
    let r = branch_reached s c.args.line rows c.requires.arrived c.in_ok-next.next places branches marks c.requires.action f in
    let there = c.requires.arrived.standing.there in
    let few = c.requires.arrived.standing.lawful.few_lines in
    let long = c.requires.long in
    let turned = (turn_facts s c.args.line rows c.requires.arrived places branches c.requires.action).few in
    let same = ap length c.loop-marks.invariant.kept.trace in
    let falls : 8 * (256 - c.in_ok-next.next) + 5 < t = (let m = c.decreases in omega arith) in
    (falls, (search rules, (search rules, (search rules, (subst (λ (x : CheckedScript). Reached x c.in_ok-next.next rows) (sym c.loop-marks.invariant.kept.script) r, ((ap (λ (x : Head). x.cards) c.head-cards.ensures ∙ ap (λ (x : CheckedScript). (script x).cards) (sym c.loop-marks.invariant.kept.script)), omega arith))))))

pub below_turn-returns-in_err-below_marks-clause-walked : goal.below_turn-returns-in_err-below_marks-clause-walked
below_turn-returns-in_err-below_marks-clause-walked g t c =
    let s : CheckedScript = c.args.self.now.script.now in
    let p : Protocol = playing s (g.D.Deck.means c.args.self.now.deck.now) (g.B.Bank.at c.args.self.now.bank.now) in
    let places : List ℕ = c.args.places.now in
    let branches : List Branch = branches_of (length places) c.args.branches.now in
    let rows : List Row = rows_view c.args.rows.now in
    let rest : ℕ = length c.args.rest.now in
    let shown : List ℕ = c.args.self.now.trace.items in
    let left : List Child = children (script s).cards places (rows_after (script s).cards places c.loop-marks.last rows) in
    let marks : List ℕ = take (length places) c.in-Some.marks in
    let child : Child = child_of (script s).cards places marks rows in
    let more : List Child = children (script s).cards places (later (script s).cards places marks rows) in
    let e = next_some c.head-cards.result.cards (script s).cards (ap (λ (x : Head). x.cards) c.head-cards.ensures) places rows c.loop-marks.last c.next_marks.result c.next_marks.ensures c.in-Some.marks c.in-Some.is in
    let n : c.args.self.now.nodes ≡ suc (c.args.self.now.nodes - 1) = (let k = c.requires.some in omega arith) in
    let same : length c.loop-marks.rest ≡ rest = omega arith in
    let f = sym c.target_of.ensures ∙ c.in_ok-next.ensures.ok_part in
    let l = (turn_onward s c.args.line rows c.requires.arrived c.in_ok-next.next places branches marks c.requires.action f).later in
    let fault : TreeFault = c.in_err-below_marks.field-0.0 in
    let err : TreeFault → Result (Unit {0}) TreeFault = λ f. Err f in
    let exit = err_from_is_err_and c.from_residual-in_err-below_marks.result c.from_residual-in_err-below_marks.ensures.1 in
    subst (λ (r : Result (Unit {0}) TreeFault). Below g.V.Visitor.visits p c.args.line rows rest shown c.args.self.now.nodes c.args.self.now.visitor.now c.below_marks.new.self.visitor.now (counted c.below_marks.new.self.nodes r)) (sym (exit.1 ∙ ap err exit.2))
    (below_refused g.V.Visitor.visits p (c.args.self.now.nodes - 1) c.args.line rows branches rest shown (children (script s).cards places rows) c.args.self.now.nodes c.args.self.now.visitor.now left c.loop-marks.self.nodes c.loop-marks.self.visitor.now c.loop-marks.invariant.turned places c.requires.action refl n more child e c.below_marks.new.self.visitor.now c.in_ok-next.next f l fault
    (subst (λ (r : ℕ). Made g.V.Visitor.visits p c.in_ok-next.next child.rows r (shown ++ marks) c.loop-marks.self.nodes c.loop-marks.self.visitor.now c.below_marks.new.self.visitor.now (Err fault)) same
    (on_kept c.args.self.now c.loop-marks.self c.loop-marks.invariant.kept
    (λ s d b m. Made g.V.Visitor.visits (playing s (g.D.Deck.means d) (g.B.Bank.at b)) c.in_ok-next.next (child_of (script s).cards places marks rows).rows (length c.loop-marks.rest) (m ++ marks) c.loop-marks.self.nodes c.loop-marks.self.visitor.now c.below_marks.new.self.visitor.now (Err fault))
    c.in_err-below_marks.ensures.walked)))

pub below_turn-loop-marks-preserved : goal.below_turn-loop-marks-preserved
below_turn-loop-marks-preserved g t c =
    let s : CheckedScript = c.args.self.now.script.now in
    let p : Protocol = playing s (g.D.Deck.means c.args.self.now.deck.now) (g.B.Bank.at c.args.self.now.bank.now) in
    let places : List ℕ = c.args.places.now in
    let branches : List Branch = branches_of (length places) c.args.branches.now in
    let rows : List Row = rows_view c.args.rows.now in
    let rest : ℕ = length c.args.rest.now in
    let shown : List ℕ = c.args.self.now.trace.items in
    let left : List Child = children (script s).cards places (rows_after (script s).cards places c.loop-marks.last rows) in
    let marks : List ℕ = take (length places) c.in-Some.marks in
    let child : Child = child_of (script s).cards places marks rows in
    let more : List Child = children (script s).cards places (later (script s).cards places marks rows) in
    let e = next_some c.head-cards.result.cards (script s).cards (ap (λ (x : Head). x.cards) c.head-cards.ensures) places rows c.loop-marks.last c.next_marks.result c.next_marks.ensures c.in-Some.marks c.in-Some.is in
    let same : length c.loop-marks.rest ≡ rest = omega arith in
    let f = sym c.target_of.ensures ∙ c.in_ok-next.ensures.ok_part in
    let l = (turn_onward s c.args.line rows c.requires.arrived c.in_ok-next.next places branches marks c.requires.action f).later in
    record {
      turned = turned_on g.V.Visitor.visits p (c.args.self.now.nodes - 1) c.args.line rows branches rest shown (children (script s).cards places rows) c.args.self.now.nodes c.args.self.now.visitor.now left c.loop-marks.self.nodes c.loop-marks.self.visitor.now c.loop-marks.invariant.turned more child e c.in_ok-next.next f l c.below_marks.new.self.visitor.now c.below_marks.new.self.nodes
          (subst (λ (r : ℕ). Made g.V.Visitor.visits p c.in_ok-next.next child.rows r (shown ++ marks) c.loop-marks.self.nodes c.loop-marks.self.visitor.now c.below_marks.new.self.visitor.now (Ok c.below_marks.new.self.nodes)) same
          (on_kept c.args.self.now c.loop-marks.self c.loop-marks.invariant.kept
          (λ s d b m. Made g.V.Visitor.visits (playing s (g.D.Deck.means d) (g.B.Bank.at b)) c.in_ok-next.next (child_of (script s).cards places marks rows).rows (length c.loop-marks.rest) (m ++ marks) c.loop-marks.self.nodes c.loop-marks.self.visitor.now c.below_marks.new.self.visitor.now (Ok c.below_marks.new.self.nodes))
          c.in_ok-below_marks.ensures.walked));
      kept = search rules;
    }

pub below_turn-returns-clause-walked : goal.below_turn-returns-clause-walked
below_turn-returns-clause-walked g t c =
    let s : CheckedScript = c.args.self.now.script.now in
    let p : Protocol = playing s (g.D.Deck.means c.args.self.now.deck.now) (g.B.Bank.at c.args.self.now.bank.now) in
    let places : List ℕ = c.args.places.now in
    let branches : List Branch = branches_of (length places) c.args.branches.now in
    let rows : List Row = rows_view c.args.rows.now in
    let rest : ℕ = length c.args.rest.now in
    let shown : List ℕ = c.args.self.now.trace.items in
    let left : List Child = children (script s).cards places (rows_after (script s).cards places c.loop-marks.last rows) in
    let n : c.args.self.now.nodes ≡ suc (c.args.self.now.nodes - 1) = (let k = c.requires.some in omega arith) in
    below_turned g.V.Visitor.visits p (c.args.self.now.nodes - 1) c.args.line rows branches rest shown (children (script s).cards places rows) c.args.self.now.nodes c.args.self.now.visitor.now left c.loop-marks.self.nodes c.loop-marks.self.visitor.now c.loop-marks.invariant.turned places c.requires.action refl n (next_none c.head-cards.result.cards (script s).cards (ap (λ (x : Head). x.cards) c.head-cards.ensures) places rows c.loop-marks.last c.next_marks.result c.next_marks.ensures c.in_default.is)
