-- Each finish that is granted gives the function's value of the input laid.
use Rattle.std.proofs.Common.{◌≡◌, ℕ, zero, suc, ◌-◌, ◌<◌, Bool, true, false, cond, ltb, ◌⊎◌, List, [], ◌∷◌, ◌++◌, length, Some, None, Option, sym, refl, ap, ◌∙◌, subst, inl, inr, arith, ltb-true, ne_eqb}
use Rattle.std.specs.List.{AllByRecursion}
use Rattle.std.proofs.ByRecursion.{all-has}
use Rattle.std.proofs.lemmas.List.{append-nil}
use Rattle.std.proofs.lemmas.Bool.{cases_eq}
use Rattle.cards.specs.Decks.{bit_reading, reading_number}
use Rattle.cards.specs.declared.reading.Reading.{Reading}
use Rattle.cards.specs.declared.reading.Reading.TheVariants.{Zero, One, Neither}
use Rattle.script.specs.Model.{Action, permute, shuffle, turn, committed, opened, none}
use Rattle.protocol.specs.Machine.{Protocol, inputs, value, action_at, laid, Mixing, permuting, shuffling, moved, marks_at, target, Trace, Run, drawn, branched, acted, and_then, advanced, begun, is_result, given}
use Rattle.protocol.specs.Table.{Phase, empty, running, ended, Table, empty_table, Call, lay, step, turn_up, finish, where_now, Answer, began, stepped, turned, finished, stands_at, refused, Reply, refuse, run_of, after_step, after_turn, after_finish, step_at, turn_at, finish_at, when_running, lay_at, replied, Session, preceded, session, Granted, grant, is_granted, granted}
use Rattle.protocol.specs.Promises.{Correct, FinishesRight}
use Rattle.protocol.proofs.Worth.{Laid, replied_laid}
use Rattle.protocol.proofs.Followed.{standing, Recorded, Effect, effect, stays_recorded, stays_standing, laid_once}

-- more draws than a run needs change nothing but what is left

abbrev with_more : List ℕ → Run → Run
with_more es r = record { line = r.line; cards = r.cards; trace = r.trace; draws = r.draws ++ es }

drawn_more : (m : Mixing) (r q : Run) (ds es : List ℕ) → drawn m r ds ≡ Some q → drawn m (with_more es r) (ds ++ es) ≡ Some (with_more es q)
drawn_more m r q [] es e = absurd (let z : ◌≡◌ {A = ℕ} 0 1 = cc in omega arith)
drawn_more m r q (d ∷ ds) es e = go (ltb d m.total) e
  where
    go : (z : Bool) → cond z (Some (record { line = m.next; cards = moved m d r.cards; trace = r.trace; draws = ds })) None ≡ Some q → cond z (Some (record { line = m.next; cards = moved m d r.cards; trace = r.trace; draws = ds ++ es })) None ≡ Some (with_more es q)
    go true f =
        let g : record { line = m.next; cards = moved m d r.cards; trace = r.trace; draws = ds } ≡ q = cc in
        ap (λ (x : Run). Some (with_more es x)) g
    go false f = absurd (let z : ◌≡◌ {A = ℕ} 0 1 = cc in omega arith)

branched_more : (r q : Run) (marks es : List ℕ) (o : Option ℕ) → branched r marks o ≡ Some q → branched (with_more es r) marks o ≡ Some (with_more es q)
branched_more r q marks es None e = absurd (let z : ◌≡◌ {A = ℕ} 0 1 = cc in omega arith)
branched_more r q marks es (Some l) e =
    let g : record { line = l; cards = r.cards; trace = r.trace ++ marks ∷ []; draws = r.draws } ≡ q = cc in
    ap (λ (x : Run). Some (with_more es x)) g

acted_more : (p : Protocol) (r q : Run) (es : List ℕ) (action : Action) → acted p r action ≡ Some q → acted p (with_more es r) action ≡ Some (with_more es q)
acted_more p r q es (permute images next) e =
    let g : record { line = next; cards = moved (permuting images next) 0 r.cards; trace = r.trace; draws = r.draws } ≡ q = cc in
    ap (λ (x : Run). Some (with_more es x)) g
acted_more p r q es (shuffle total next) e = drawn_more (shuffling p r.line total next) r q r.draws es e
acted_more p r q es (turn places branches) e =
    branched_more r q (marks_at places r.cards) es (target (marks_at places r.cards) branches) e
acted_more p r q es (committed left right) e = absurd (let z : ◌≡◌ {A = ℕ} 0 1 = cc in omega arith)
acted_more p r q es (opened value) e = absurd (let z : ◌≡◌ {A = ℕ} 0 1 = cc in omega arith)
acted_more p r q es none e = absurd (let z : ◌≡◌ {A = ℕ} 0 1 = cc in omega arith)

-- and one step more
advanced_more : (k : ℕ) (p : Protocol) (r q x : Run) (es : List ℕ) → advanced k p r ≡ Some q → acted p (with_more es q) (action_at p q.line) ≡ Some x → advanced (suc k) p (with_more es r) ≡ Some x
unfolding advanced
advanced_more zero p r q x es e f =
    let g : q ≡ r = cc in
    ap (λ o. and_then o (advanced 0 p)) (subst (λ (y : Run). acted p (with_more es y) (action_at p y.line) ≡ Some x) g f)
advanced_more (suc k) p r q x es e f =
    go (acted p r (action_at p r.line)) refl e (λ y g. advanced_more k p y q x es g f)
  where
    go : (o : Option Run) → acted p r (action_at p r.line) ≡ o → and_then o (advanced k p) ≡ Some q → ((y : Run) → advanced k p y ≡ Some q → advanced (suc k) p (with_more es y) ≡ Some x) → and_then (acted p (with_more es r) (action_at p r.line)) (advanced (suc k) p) ≡ Some x
    go None g h ih = absurd (let z : ◌≡◌ {A = ℕ} 0 1 = cc in omega arith)
    go (Some y) g h ih =
        ap (λ o. and_then o (advanced (suc k) p)) (acted_more p r y es (action_at p r.line) g) ∙ ih y h

advanced_none : (p : Protocol) (r : Run) → advanced 0 p r ≡ Some r
unfolding advanced
advanced_none p r = refl

-- a finish reads what the cards give
abbrev Gives : Protocol → Table → Answer → Type 0
Gives p t (began l) = Unit
Gives p t (stepped l) = Unit
Gives p t (turned l w) = Unit
Gives p t (finished v) =
    (is_result (action_at p t.line) ≡ true) × (given p.deck t.cards (action_at p t.line) ≡ bit_reading v) × (v < 2)
Gives p t (stands_at w) = Unit
Gives p t (refused f) = Unit

module _ (p : Protocol) (t : Table) (bytes : List ℕ) where
  after_step_gives : (k : ℕ) (o : Option Run) → Gives p t (after_step t bytes k o).answer
  after_step_gives k None = tt
  after_step_gives k (Some r) = tt

  after_turn_gives : (k : ℕ) (o : Option Run) → Gives p t (after_turn t bytes k o).answer
  after_turn_gives k None = tt
  after_turn_gives k (Some r) = tt

  cond_gives : (z : Bool) (r s : Reply) → Gives p t r.answer → Gives p t s.answer → Gives p t (cond z r s).answer
  cond_gives true r s a b = a
  cond_gives false r s a b = b

  read_gives : (action : Action) → action_at p t.line ≡ action → is_result action ≡ true → (r : Reading) → given p.deck t.cards action ≡ r → Gives p t (after_finish t bytes 31 r).answer
  read_gives action e f Zero g =
      (ap is_result e ∙ f, ap (given p.deck t.cards) e ∙ g, omega arith)
  read_gives action e f One g =
      (ap is_result e ∙ f, ap (given p.deck t.cards) e ∙ g, omega arith)
  read_gives action e f Neither g = tt

  step_gives : (d : ℕ) (action : Action) → Gives p t (step_at p t bytes d action).answer
  step_gives d (permute images next) =
      cond_gives (ltb d 1) (after_step t bytes 29 (acted p (run_of t []) (permute images next))) (refuse t bytes 29) tt tt
  step_gives d (shuffle total next) = after_step_gives 29 (acted p (run_of t (d ∷ [])) (shuffle total next))
  step_gives d (turn places branches) = tt
  step_gives d (committed left right) = tt
  step_gives d (opened output) = tt
  step_gives d none = tt

  turn_gives : (action : Action) → Gives p t (turn_at p t bytes action).answer
  turn_gives (permute images next) = tt
  turn_gives (shuffle total next) = tt
  turn_gives (turn places branches) =
      cond_gives (ltb (length bytes - t.written) (length places)) (refuse t bytes 30)
      (after_turn t bytes 31 (acted p (run_of t []) (turn places branches))) tt
      (after_turn_gives 31 (acted p (run_of t []) (turn places branches)))
  turn_gives (committed left right) = tt
  turn_gives (opened output) = tt
  turn_gives none = tt

  finish_gives : (action : Action) → action_at p t.line ≡ action → Gives p t (finish_at p t bytes action).answer
  finish_gives (permute images next) e = tt
  finish_gives (shuffle total next) e = tt
  finish_gives (turn places branches) e = tt
  finish_gives (committed left right) e = read_gives (committed left right) e refl (given p.deck t.cards (committed left right)) refl
  finish_gives (opened output) e = read_gives (opened output) e refl (given p.deck t.cards (opened output)) refl
  finish_gives none e = tt

  when_gives : (phase : Phase) (r : Reply) → Gives p t r.answer → Gives p t (when_running t bytes phase r).answer
  when_gives empty r h = tt
  when_gives running r h = h
  when_gives ended r h = tt

  lay_gives : (x : ℕ) (phase : Phase) → Laid phase → Gives p t (lay_at p t bytes x phase).answer
  lay_gives x empty h = absurd h
  lay_gives x running h = tt
  lay_gives x ended h = tt

  gives : Laid t.phase → (c : Call) → Gives p t (replied p t bytes c).answer
  gives h (lay x) = lay_gives x t.phase h
  gives h (step d) = when_gives t.phase (step_at p t bytes d (action_at p t.line)) (step_gives d (action_at p t.line))
  gives h turn_up = when_gives t.phase (turn_at p t bytes (action_at p t.line)) (turn_gives (action_at p t.line))
  gives h finish = when_gives t.phase (finish_at p t bytes (action_at p t.line)) (finish_gives (action_at p t.line) refl)
  gives h where_now = tt

-- the bit that a reading is
reading_bit : (v : ℕ) → v < 2 → reading_number (bit_reading v) ≡ v
reading_bit v h =
    elim (cases_eq v 0) [
      | inl e ↦ rw e refl
      | inr ne ↦ ap (λ t. reading_number (cond t Zero One)) (ne_eqb v 0 ne) ∙ (let z : 1 ≡ v = omega (arith, ne) in z)
    ]

one_bit : (v w : ℕ) → v < 2 → w < 2 → bit_reading v ≡ bit_reading w → v ≡ w
one_bit v w h k e = sym (reading_bit v h) ∙ ap reading_number e ∙ reading_bit w k

-- a table that stands where the machine's run for x comes to
record Reachable (p : Protocol) (x : ℕ) (t : Table) (trace : Trace) : Type 0 where
  steps : ℕ
  draws : List ℕ
  run : advanced steps p (begun p x draws) ≡ Some (standing t trace [])

abbrev ValueOf : Protocol → ℕ → Answer → Type 0
ValueOf p x (began l) = Unit
ValueOf p x (stepped l) = Unit
ValueOf p x (turned l w) = Unit
ValueOf p x (finished v) = v ≡ value p x
ValueOf p x (stands_at w) = Unit
ValueOf p x (refused f) = Unit

module _ (p : Protocol) (correct : Correct p) (x : ℕ) (hx : x < inputs p) where
  value_given : (t : Table) (trace : Trace) → Reachable p x t trace → (a : Answer) → Gives p t a → ValueOf p x a
  value_given t trace at (began l) g = tt
  value_given t trace at (stepped l) g = tt
  value_given t trace at (turned l w) g = tt
  value_given t trace at (finished v) g =
      one_bit v (value p x) g.2 (omega arith)
      (sym g.1 ∙ correct x hx at.draws at.steps (standing t trace []) at.run refl g.0)
  value_given t trace at (stands_at w) g = tt
  value_given t trace at (refused f) g = tt

  finished_right : (calls : List Call) (trace : Trace) (t : Table) (bytes first : List ℕ) → Laid t.phase → Recorded first trace t.written bytes → Reachable p x t trace → AllByRecursion (ValueOf p x) (session p t bytes calls).answers
  unfolding session
  finished_right [] trace t bytes first h rec at = tt
  finished_right (c ∷ cs) trace t bytes first h rec at = (
    value_given t trace at r.answer (gives p t bytes h c),
    go (effect p first trace t bytes rec h c)
        (λ trace rec at. finished_right cs trace r.table r.bytes first (replied_laid p t bytes c h) rec at),
  )
    where
      r : Reply
      r = replied p t bytes c

      go : Effect p first trace t bytes c r → ((after : Trace) → Recorded first after r.table.written r.bytes → Reachable p x r.table after → AllByRecursion (ValueOf p x) (session p r.table r.bytes cs).answers) → AllByRecursion (ValueOf p x) (session p r.table r.bytes cs).answers
      go (inl s) ih =
          ih trace
          (stays_recorded p first trace t bytes c r s rec)
          (record { steps = at.steps; draws = at.draws; run = at.run ∙ ap Some (stays_standing p trace t bytes c r [] s) })
      go (inr m) ih =
          ih m.after m.recorded
          (record {
            steps = suc at.steps;
            draws = at.draws ++ m.used;
            run = advanced_more at.steps p (begun p x at.draws) (standing t trace []) (standing r.table m.after []) m.used at.run
                (subst (λ ds. acted p (standing t trace ds) (action_at p t.line) ≡ Some (standing r.table m.after [])) (append-nil m.used) (m.step []));
          })

-- no finish was granted, or the input laid is known
abbrev NotFinished : Answer → Type 0
NotFinished (began l) = Unit
NotFinished (stepped l) = Unit
NotFinished (turned l w) = Unit
NotFinished (finished v) = ⊥
NotFinished (stands_at w) = Unit
NotFinished (refused f) = Unit

abbrev Ends : Protocol → Granted → Session → Type 0
Ends p g s =
    AllByRecursion NotFinished s.answers ⊎ ((x : ℕ) × (g.laid ≡ x ∷ []) × (x < inputs p) × AllByRecursion (ValueOf p x) s.answers)

refused_ends : (p : Protocol) (g : Granted) (s : Session) (a : Answer) → NotFinished a → ((x : ℕ) → ValueOf p x a) → Ends p g s → Ends p g (preceded a s)
refused_ends p g s a n v (inl h) = inl (n, h)
refused_ends p g s a n v (inr h) = inr (h.0, h.1, h.2, (v h.0, h.3))

module _ (p : Protocol) (correct : Correct p) (bytes : List ℕ) where
  from_empty : (calls : List Call) → Ends p (granted p empty_table bytes calls) (session p empty_table bytes calls)
  unfolding session granted
  from_empty [] = inl tt
  from_empty (lay x ∷ cs) = go (ltb x (inputs p)) refl (from_empty cs)
    where
      t : Table
      t = record { phase = running; line = 2; cards = laid p x; written = 0 }

      reply : Bool → Reply
      reply z = cond z (record { answer = began 2; table = t; bytes = bytes }) (refuse empty_table bytes 26)

      after : Bool → Granted
      after z = granted p (reply z).table (reply z).bytes cs

      start : Recorded bytes [] 0 bytes
      start = record { count = refl; holds = refl; long = refl }

      go : (z : Bool) → ltb x (inputs p) ≡ z → Ends p (granted p empty_table bytes cs) (session p empty_table bytes cs) → Ends p (cond (is_granted (reply z).answer) (grant p empty_table (lay x) (after z)) (after z)) (preceded (reply z).answer (session p (reply z).table (reply z).bytes cs))
      go true e ih =
          let h = ltb-true x (inputs p) e in
          inr (
            x,
            ap (λ xs. x ∷ xs) (laid_once p t bytes cs tt bytes [] start),
            h,
            (tt, finished_right p correct x h cs [] t bytes bytes tt start (record { steps = 0; draws = []; run = begins })),
          )
        where
          begins : advanced 0 p (begun p x []) ≡ Some (standing t [] [])
          begins = advanced_none p (begun p x [])
      go false e ih = refused_ends p (granted p empty_table bytes cs) (session p empty_table bytes cs) (refuse empty_table bytes 26).answer tt (λ x. tt) ih
  from_empty (step d ∷ cs) =
      refused_ends p (granted p empty_table bytes cs) (session p empty_table bytes cs) (refuse empty_table bytes 24).answer tt (λ x. tt) (from_empty cs)
  from_empty (turn_up ∷ cs) =
      refused_ends p (granted p empty_table bytes cs) (session p empty_table bytes cs) (refuse empty_table bytes 24).answer tt (λ x. tt) (from_empty cs)
  from_empty (finish ∷ cs) =
      refused_ends p (granted p empty_table bytes cs) (session p empty_table bytes cs) (refuse empty_table bytes 24).answer tt (λ x. tt) (from_empty cs)
  from_empty (where_now ∷ cs) =
      refused_ends p (granted p empty_table bytes cs) (session p empty_table bytes cs) (replied p empty_table bytes where_now).answer tt (λ x. tt) (from_empty cs)

pub finishes_right : (p : Protocol) → Correct p → FinishesRight p
finishes_right p correct bytes calls output has =
    elim (from_empty p correct bytes calls) [
      | inl h ↦ absurd (all-has NotFinished (session p empty_table bytes calls).answers (finished output) h has)
      | inr h ↦ (h.0, h.1, h.2, all-has (ValueOf p h.0) (session p empty_table bytes calls).answers (finished output) h.3 has)
    ]
