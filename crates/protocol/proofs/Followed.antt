-- Table and machine: a table that is laid follows the machine's run for the input laid.
use Rattle.std.proofs.Common.{◌≡◌, ℕ, suc, ◌+◌, ◌-◌, ◌≤◌, Bool, true, false, cond, ltb, ◌⊎◌, List, [], ◌∷◌, ◌++◌, length, take, drop, Some, None, Option, sym, refl, ap, ◌∙◌, subst, inl, inr, arith, length-append, length-drop, ltb-false, ltb-true}
use Rattle.std.proofs.lemmas.List.{append-nil, append_assoc, length-map, take_at, drop_at, drop-drop}
use Rattle.cards.specs.declared.reading.Reading.{Reading}
use Rattle.cards.specs.declared.reading.Reading.TheVariants.{Zero, One, Neither}
use Rattle.script.specs.Model.{Action, permute, shuffle, turn, committed, opened, none}
use Rattle.protocol.specs.Machine.{Protocol, inputs, action_at, laid, Mixing, shuffling, moved, marks_at, card_at, target, Trace, Run, branched, acted, and_then, advanced, given}
use Rattle.protocol.specs.Table.{Phase, empty, running, ended, Table, empty_table, Call, lay, step, turn_up, finish, where_now, Answer, began, Reply, refuse, run_of, bytes_of, overwritten, after_step, after_turn, after_finish, step_at, turn_at, finish_at, when_running, replied, Session, preceded, session, Granted, drawn_at, grant, is_granted, granted}
use Rattle.protocol.specs.Promises.{Follows, TableAndMachine}
use Rattle.protocol.proofs.Worth.{Laid, replied_laid, lay_refused}

-- the machine's run where the table stands
abbrev pub standing : Table → Trace → List ℕ → Run
standing t trace draws = record { line = t.line; cards = t.cards; trace = trace; draws = draws }

-- the record has the bytes of a trace, and after them what it had
pub record Recorded (first : List ℕ) (trace : Trace) (written : ℕ) (bytes : List ℕ) : Type 0 where
  pub count : written ≡ length (bytes_of trace)
  pub holds : bytes ≡ bytes_of trace ++ drop written first
  pub long : length bytes ≡ length first

-- a call that leaves the table where it stands, and was granted no move
pub record Stays (p : Protocol) (t : Table) (bytes : List ℕ) (c : Call) (r : Reply) : Type 0 where
  pub line : r.table.line ≡ t.line
  pub cards : r.table.cards ≡ t.cards
  pub written : r.table.written ≡ t.written
  pub kept : r.bytes ≡ bytes
  pub grants : (g : Granted) → cond (is_granted r.answer) (grant p t c g) g ≡ g

-- a call that was granted a step of the machine, with these draws
pub record Moves (p : Protocol) (first : List ℕ) (trace : Trace) (t : Table) (c : Call) (r : Reply) : Type 0 where
  pub after : Trace
  pub used : List ℕ
  pub step : (draws : List ℕ) → acted p (standing t trace (used ++ draws)) (action_at p t.line) ≡ Some (standing r.table after draws)
  pub recorded : Recorded first after r.table.written r.bytes
  pub grants : (g : Granted) → cond (is_granted r.answer) (grant p t c g) g ≡ record { laid = g.laid; moves = suc g.moves; draws = used ++ g.draws }

abbrev pub Effect : Protocol → List ℕ → Trace → Table → List ℕ → Call → Reply → Type 0
Effect p first trace t bytes c r = Stays p t bytes c r ⊎ Moves p first trace t c r

refused_stays : (p : Protocol) (first : List ℕ) (trace : Trace) (t : Table) (bytes : List ℕ) (c : Call) (number : ℕ) → Effect p first trace t bytes c (refuse t bytes number)
refused_stays p first trace t bytes c number =
    inl (record { line = refl; cards = refl; written = refl; kept = refl; grants = λ g. refl })

-- the bytes of one more list of marks
bytes_more : (trace : Trace) (marks : List ℕ) → bytes_of (trace ++ marks ∷ []) ≡ bytes_of trace ++ marks
bytes_more [] marks = append-nil marks
bytes_more (x ∷ xs) marks = ap (λ v. x ++ v) (bytes_more xs marks) ∙ sym (append_assoc x (bytes_of xs) marks)

recorded_more : (first : List ℕ) (trace : Trace) (w : ℕ) (bytes marks : List ℕ) → Recorded first trace w bytes → length marks ≤ length bytes - w → Recorded first (trace ++ marks ∷ []) (w + length marks) (overwritten bytes w marks)
recorded_more first trace w bytes marks rec fits =
    record {
      count = (let a = ap length (bytes_more trace marks) in let b = length-append (bytes_of trace) marks in let c = rec.count in omega arith);
      holds = whole;
      long = (let a = ap length whole in let b = ap length (bytes_more trace marks) in let c = length-append (bytes_of trace) marks in let d = length-append (bytes_of (trace ++ marks ∷ [])) (drop (w + length marks) first) in let e = length-drop (w + length marks) first in let f = rec.count in let g = rec.long in let h = inside in omega arith);
    }
  where
    front : take w bytes ≡ bytes_of trace
    front = ap (take w) rec.holds ∙ take_at (bytes_of trace) (drop w first) w (sym rec.count)

    back : drop (w + length marks) bytes ≡ drop (w + length marks) first
    back =
        sym (drop-drop (length marks) w bytes)
        ∙ ap (drop (length marks)) (ap (drop w) rec.holds ∙ drop_at (bytes_of trace) (drop w first) w (sym rec.count))
        ∙ drop-drop (length marks) w first

    inside : w ≤ length first
    inside =
        let a = ap length rec.holds in let b = length-append (bytes_of trace) (drop w first) in let c = length-drop w first in
        let d = rec.count in let e = rec.long in omega arith

    whole : overwritten bytes w marks ≡ bytes_of (trace ++ marks ∷ []) ++ drop (w + length marks) first
    whole =
        ap (λ v. v ++ (marks ++ drop (w + length marks) bytes)) front
        ∙ ap (λ v. bytes_of trace ++ (marks ++ v)) back
        ∙ sym (append_assoc (bytes_of trace) marks (drop (w + length marks) first))
        ∙ ap (λ v. v ++ drop (w + length marks) first) (sym (bytes_more trace marks))

module _ (p : Protocol) (first : List ℕ) (trace : Trace) (t : Table) (bytes : List ℕ) (rec : Recorded first trace t.written bytes) where
  step_effect : (d : ℕ) (action : Action) → action_at p t.line ≡ action → Effect p first trace t bytes (step d) (step_at p t bytes d action)
  step_effect d (permute images next) e = go (ltb d 1)
    where
      go : (z : Bool) → Effect p first trace t bytes (step d) (cond z (after_step t bytes 29 (acted p (run_of t []) (permute images next))) (refuse t bytes 29))
      go true =
          inr (record {
            after = trace;
            used = [];
            step = λ draws. ap (acted p (standing t trace draws)) e;
            recorded = rec;
            grants = λ g. ap (λ a. record { laid = g.laid; moves = suc g.moves; draws = drawn_at a d ++ g.draws }) e;
          })
      go false = refused_stays p first trace t bytes (step d) 29
  step_effect d (shuffle total next) e = go (ltb d total) refl
    where
      m : Mixing
      m = shuffling p t.line total next

      go : (z : Bool) → ltb d total ≡ z → Effect p first trace t bytes (step d) (after_step t bytes 29 (cond z (Some (record { line = next; cards = moved m d t.cards; trace = []; draws = [] })) None))
      go true f =
          inr (record {
            after = trace;
            used = d ∷ [];
            step = λ draws.
                ap (acted p (standing t trace (d ∷ draws))) e
                ∙ ap (λ z. cond z (Some (record { line = next; cards = moved m d t.cards; trace = trace; draws = draws })) None) f;
            recorded = rec;
            grants = λ g. ap (λ a. record { laid = g.laid; moves = suc g.moves; draws = drawn_at a d ++ g.draws }) e;
          })
      go false f = refused_stays p first trace t bytes (step d) 29
  step_effect d (turn places branches) e = refused_stays p first trace t bytes (step d) 28
  step_effect d (committed left right) e = refused_stays p first trace t bytes (step d) 28
  step_effect d (opened output) e = refused_stays p first trace t bytes (step d) 28
  step_effect d none e = refused_stays p first trace t bytes (step d) 28

  turn_effect : (action : Action) → action_at p t.line ≡ action → Effect p first trace t bytes turn_up (turn_at p t bytes action)
  turn_effect (permute images next) e = refused_stays p first trace t bytes turn_up 28
  turn_effect (shuffle total next) e = refused_stays p first trace t bytes turn_up 28
  turn_effect (turn places branches) e = room (ltb (length bytes - t.written) (length places)) refl
    where
      marks : List ℕ
      marks = marks_at places t.cards

      plain : bytes_of ([] ++ marks ∷ []) ≡ marks
      plain = append-nil marks

      shown : (o : Option ℕ) → target marks branches ≡ o → length marks ≤ length bytes - t.written → Effect p first trace t bytes turn_up (after_turn t bytes 31 (branched (run_of t []) marks o))
      shown None f fits = refused_stays p first trace t bytes turn_up 31
      shown (Some l) f fits =
          inr (record {
            after = trace ++ marks ∷ [];
            used = [];
            step = λ draws. ap (acted p (standing t trace draws)) e ∙ ap (branched (standing t trace draws) marks) f;
            recorded = subst (λ v. Recorded first (trace ++ marks ∷ []) (t.written + length v) (overwritten bytes t.written v)) (sym plain)
                (recorded_more first trace t.written bytes marks rec fits);
            grants = λ g. refl;
          })

      room : (z : Bool) → ltb (length bytes - t.written) (length places) ≡ z → Effect p first trace t bytes turn_up (cond z (refuse t bytes 30) (after_turn t bytes 31 (branched (run_of t []) marks (target marks branches))))
      room true f = refused_stays p first trace t bytes turn_up 30
      room false f =
          shown (target marks branches) refl
          (let a = ltb-false (length bytes - t.written) (length places) f in let b = length-map places (card_at t.cards) in omega arith)
  turn_effect (committed left right) e = refused_stays p first trace t bytes turn_up 28
  turn_effect (opened output) e = refused_stays p first trace t bytes turn_up 28
  turn_effect none e = refused_stays p first trace t bytes turn_up 28

  read_effect : (r : Reading) → Effect p first trace t bytes finish (after_finish t bytes 31 r)
  read_effect Neither = refused_stays p first trace t bytes finish 31
  read_effect Zero = inl (record { line = refl; cards = refl; written = refl; kept = refl; grants = λ g. refl })
  read_effect One = inl (record { line = refl; cards = refl; written = refl; kept = refl; grants = λ g. refl })

  finish_effect : (action : Action) → Effect p first trace t bytes finish (finish_at p t bytes action)
  finish_effect (permute images next) = refused_stays p first trace t bytes finish 28
  finish_effect (shuffle total next) = refused_stays p first trace t bytes finish 28
  finish_effect (turn places branches) = refused_stays p first trace t bytes finish 28
  finish_effect (committed left right) = read_effect (given p.deck t.cards (committed left right))
  finish_effect (opened output) = read_effect (given p.deck t.cards (opened output))
  finish_effect none = refused_stays p first trace t bytes finish 28

  when_effect : (c : Call) (phase : Phase) (r : Reply) → Effect p first trace t bytes c r → Effect p first trace t bytes c (when_running t bytes phase r)
  when_effect c empty r h = refused_stays p first trace t bytes c 24
  when_effect c running r h = h
  when_effect c ended r h = refused_stays p first trace t bytes c 27

  -- every call on a table that is laid
  pub effect : Laid t.phase → (c : Call) → Effect p first trace t bytes c (replied p t bytes c)
  effect h (lay x) =
      subst (Effect p first trace t bytes (lay x)) (sym (lay_refused p t bytes x t.phase h)) (refused_stays p first trace t bytes (lay x) 25)
  effect h (step d) =
      when_effect (step d) t.phase (step_at p t bytes d (action_at p t.line)) (step_effect d (action_at p t.line) refl)
  effect h turn_up =
      when_effect turn_up t.phase (turn_at p t bytes (action_at p t.line)) (turn_effect (action_at p t.line) refl)
  effect h finish =
      when_effect finish t.phase (finish_at p t bytes (action_at p t.line)) (finish_effect (action_at p t.line))
  effect h where_now = inl (record { line = refl; cards = refl; written = refl; kept = refl; grants = λ g. refl })

pub stays_recorded : (p : Protocol) (first : List ℕ) (trace : Trace) (t : Table) (bytes : List ℕ) (c : Call) (r : Reply) → Stays p t bytes c r → Recorded first trace t.written bytes → Recorded first trace r.table.written r.bytes
stays_recorded p first trace t bytes c r s rec =
    record {
      count = s.written ∙ rec.count;
      holds = s.kept ∙ rec.holds ∙ ap (λ w. bytes_of trace ++ drop w first) (sym s.written);
      long = ap length s.kept ∙ rec.long;
    }

pub stays_standing : (p : Protocol) (trace : Trace) (t : Table) (bytes : List ℕ) (c : Call) (r : Reply) (draws : List ℕ) → Stays p t bytes c r → standing t trace draws ≡ standing r.table trace draws
stays_standing p trace t bytes c r draws s =
    ap (λ x. record { line = x; cards = t.cards; trace = trace; draws = draws }) (sym s.line)
    ∙ ap (λ x. record { line = r.table.line; cards = x; trace = trace; draws = draws }) (sym s.cards)

-- what the later calls do, from a table that is laid
pub record Later (p : Protocol) (first : List ℕ) (start : List ℕ → Run) (g : Granted) (s : Session) (r : Run) : Type 0 where
  pub laid : g.laid ≡ []
  pub run : advanced g.moves p (start g.draws) ≡ Some r
  pub spent : r.draws ≡ []
  pub line : s.table.line ≡ r.line
  pub cards : s.table.cards ≡ r.cards
  pub recorded : Recorded first r.trace s.table.written s.bytes

abbrev Followed : Protocol → List ℕ → Trace → Table → List ℕ → List Call → Type 0
Followed p first trace t bytes calls =
    (r : Run) × Later p first (standing t trace) (granted p t bytes calls) (session p t bytes calls) r

follow : (p : Protocol) (first : List ℕ) (calls : List Call) (trace : Trace) (t : Table) (bytes : List ℕ) → Laid t.phase → Recorded first trace t.written bytes → Followed p first trace t bytes calls
unfolding session granted advanced
follow p first [] trace t bytes h rec =
    (standing t trace [], record { laid = refl; run = refl; spent = refl; line = refl; cards = refl; recorded = rec })
follow p first (c ∷ cs) trace t bytes h rec =
    go (effect p first trace t bytes rec h c) (λ trace rec. follow p first cs trace r.table r.bytes (replied_laid p t bytes c h) rec)
  where
    r : Reply
    r = replied p t bytes c

    later : Granted
    later = granted p r.table r.bytes cs

    final : Session
    final = session p r.table r.bytes cs

    go : Effect p first trace t bytes c r → ((after : Trace) → Recorded first after r.table.written r.bytes → Followed p first after r.table r.bytes cs) → (q : Run) × Later p first (standing t trace) (cond (is_granted r.answer) (grant p t c later) later) (preceded r.answer final) q
    go (inl s) ih =
        let f = ih trace (stays_recorded p first trace t bytes c r s rec) in
        let l = f.1 in (
          f.0,
          subst (λ (g : Granted). Later p first (standing t trace) g (preceded r.answer final) f.0) (sym (s.grants later))
              (record {
                laid = l.laid;
                run = ap (advanced later.moves p) (stays_standing p trace t bytes c r later.draws s) ∙ l.run;
                spent = l.spent;
                line = l.line;
                cards = l.cards;
                recorded = l.recorded;
              }),
        )
    go (inr m) ih =
        let f = ih m.after m.recorded in
        let l = f.1 in (
          f.0,
          subst (λ (g : Granted). Later p first (standing t trace) g (preceded r.answer final) f.0) (sym (m.grants later))
              (record {
                laid = l.laid;
                run = ap (λ o. and_then o (advanced later.moves p)) (m.step later.draws) ∙ l.run;
                spent = l.spent;
                line = l.line;
                cards = l.cards;
                recorded = l.recorded;
              }),
        )

preceded_follows : (p : Protocol) (bytes : List ℕ) (g : Granted) (a : Answer) (s : Session) (x : ℕ) (r : Run) → Follows p bytes g s x r → Follows p bytes g (preceded a s) x r
preceded_follows p bytes g a s x r f =
    record {
      laid = f.laid;
      input = f.input;
      run = f.run;
      spent = f.spent;
      line = f.line;
      cards = f.cards;
      written = f.written;
      trace = f.trace;
      long = f.long;
    }

abbrev Runs : Protocol → List ℕ → Granted → Session → Type 0
Runs p bytes g s = (s.table.phase ≡ empty → ⊥) → (x : ℕ) × (r : Run) × Follows p bytes g s x r

waits : (p : Protocol) (bytes : List ℕ) (g : Granted) (a : Answer) (s : Session) → Runs p bytes g s → Runs p bytes g (preceded a s)
waits p bytes g a s h k = let f = h k in (f.0, f.1, preceded_follows p bytes g a s f.0 f.1 f.2)

pub table_and_machine : TableAndMachine
unfolding session granted
table_and_machine p bytes [] h = absurd (h refl)
table_and_machine p bytes (lay x ∷ cs) h = go (ltb x (inputs p)) refl h (table_and_machine p bytes cs)
  where
    t : Table
    t = record { phase = running; line = 2; cards = laid p x; written = 0 }

    reply : Bool → Reply
    reply z = cond z (record { answer = began 2; table = t; bytes = bytes }) (refuse empty_table bytes 26)

    after : Bool → Granted
    after z = granted p (reply z).table (reply z).bytes cs

    go : (z : Bool) → ltb x (inputs p) ≡ z → ((session p (reply z).table (reply z).bytes cs).table.phase ≡ empty → ⊥) → Runs p bytes (granted p empty_table bytes cs) (session p empty_table bytes cs) → (y : ℕ) × (r : Run) × Follows p bytes (cond (is_granted (reply z).answer) (grant p empty_table (lay x) (after z)) (after z)) (preceded (reply z).answer (session p (reply z).table (reply z).bytes cs)) y r
    go true e k ih =
        let f = follow p bytes cs [] t bytes tt (record { count = refl; holds = refl; long = refl }) in
        let l = f.1 in (
          x,
          f.0,
          record {
            laid = ap (λ xs. x ∷ xs) l.laid;
            input = ltb-true x (inputs p) e;
            run = l.run;
            spent = l.spent;
            line = l.line;
            cards = l.cards;
            written = l.recorded.count;
            trace = l.recorded.holds;
            long = l.recorded.long;
          },
        )
    go false e k ih = waits p bytes (granted p empty_table bytes cs) (refuse empty_table bytes 26).answer (session p empty_table bytes cs) ih k
table_and_machine p bytes (step d ∷ cs) h =
    waits p bytes (granted p empty_table bytes cs) (refuse empty_table bytes 24).answer (session p empty_table bytes cs) (table_and_machine p bytes cs) h
table_and_machine p bytes (turn_up ∷ cs) h =
    waits p bytes (granted p empty_table bytes cs) (refuse empty_table bytes 24).answer (session p empty_table bytes cs) (table_and_machine p bytes cs) h
table_and_machine p bytes (finish ∷ cs) h =
    waits p bytes (granted p empty_table bytes cs) (refuse empty_table bytes 24).answer (session p empty_table bytes cs) (table_and_machine p bytes cs) h
table_and_machine p bytes (where_now ∷ cs) h =
    waits p bytes (granted p empty_table bytes cs) (replied p empty_table bytes where_now).answer (session p empty_table bytes cs) (table_and_machine p bytes cs) h

-- nothing more is laid on a table that is laid
pub laid_once : (p : Protocol) (t : Table) (bytes : List ℕ) (calls : List Call) → Laid t.phase → (first : List ℕ) (trace : Trace) → Recorded first trace t.written bytes → (granted p t bytes calls).laid ≡ []
laid_once p t bytes calls h first trace rec = (follow p first calls trace t bytes h rec).1.laid
