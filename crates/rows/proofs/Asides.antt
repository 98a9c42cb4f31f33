-- A row put aside into the batch behind a run, or added to a row of the run.
use Rattle.std.proofs.Common.{Some, None, Option, ◌≡◌, ℕ, zero, suc, Bool, true, false, cond, ltb, ◌+◌, ◌-◌, ◌<◌, ◌≤◌, List, [], ◌∷◌, ◌++◌, length, take, drop, refl, sym, ap, ◌∙◌, subst, zero-add, arith}
use Rattle.std.proofs.lemmas.Bool.{ltb-false}
use Rattle.std.proofs.lemmas.List.{length-map, length-take-le, length-drop, take-append-drop, take_at, drop_at, drop-drop}
use Rattle.std.proofs.lemmas.List.Sums.{sum_by-cons}
use Rattle.protocol.specs.States.{Row, weight, added, join, total_of, Above, Ascending}
use Rattle.rows.specs.declared.row.Row as code
use Rattle.rows.specs.Views.{row_view, rows_view, sequence_at, Written, Put}
use Rattle.rows.specs.Batches.{all_joined, held_state, Holding, Held, PutAside}
use Rattle.rows.proofs.Order.{ascending_join, join_longer}
use Rattle.rows.proofs.Batches.{all_swap, all_join, all_end}
use Rattle.rows.proofs.Holdings.{Parts, Laid, laid_of, holding_of_parts, state_of_parts, rest_is, cut_state}
use Rattle.rows.proofs.Totals.{total_join}
use Rattle.rows.proofs.Standing.{drop_same}

-- no row has the sequence
abbrev Lacks : ℕ → List Row → Type 0
Lacks s [] = Unit
Lacks s (x ∷ xs) = (x.sequence ≡ s → ⊥) × Lacks s xs

lacks_join : (s : ℕ) (r : Row) (xs : List Row) → (r.sequence ≡ s → ⊥) → Lacks s xs → Lacks s (join r xs)
lacks_join s r [] ne h = (ne, tt)
lacks_join s r (x ∷ xs) ne h = go (lacks_join s r xs ne h.1) (ltb r.sequence x.sequence) (ltb x.sequence r.sequence)
  where
    go : Lacks s (join r xs) → (t u : Bool) → Lacks s (cond t (r ∷ x ∷ xs) (cond u (x ∷ join r xs) (record { sequence = x.sequence; weights = added x.weights r.weights } ∷ xs)))
    go k true u = (ne, h)
    go k false true = (h.0, k)
    go k false false = (h.0, h.1)

-- a row that is not there makes the list one longer
new_length : (r : Row) (xs : List Row) → Lacks r.sequence xs → length (join r xs) ≡ suc (length xs)
new_length r [] h = refl
new_length r (x ∷ xs) h = go (new_length r xs h.1) (ltb r.sequence x.sequence) refl (ltb x.sequence r.sequence) refl
  where
    go : length (join r xs) ≡ suc (length xs) → (t : Bool) → ltb r.sequence x.sequence ≡ t → (u : Bool) → ltb x.sequence r.sequence ≡ u → length (cond t (r ∷ x ∷ xs) (cond u (x ∷ join r xs) (record { sequence = x.sequence; weights = added x.weights r.weights } ∷ xs))) ≡ suc (suc (length xs))
    go k true e u f = refl
    go k false e true f = ap suc k
    go k false e false f = absurd (h.0 (let a = ltb-false r.sequence x.sequence e in let b = ltb-false x.sequence r.sequence f in omega arith))

-- none of the first rows' sequences stands among the others
abbrev AllLack : List Row → List Row → Type 0
AllLack [] xs = Unit
AllLack (q ∷ qs) xs = Lacks q.sequence xs × AllLack qs xs

all_lack_join : (r : Row) (qs xs : List Row) → Lacks r.sequence xs → AllLack qs xs → AllLack (join r qs) xs
all_lack_join r [] xs l h = (l, tt)
all_lack_join r (q ∷ qs) xs l h = go (all_lack_join r qs xs l h.1) (ltb r.sequence q.sequence) (ltb q.sequence r.sequence)
  where
    go : AllLack (join r qs) xs → (t u : Bool) → AllLack (cond t (r ∷ q ∷ qs) (cond u (q ∷ join r qs) (record { sequence = q.sequence; weights = added q.weights r.weights } ∷ qs))) xs
    go k true u = (l, h)
    go k false true = (h.0, k)
    go k false false = (h.0, h.1)

-- (a row before all of them may be joined to the others)
lack_still : (s : ℕ) (r : Row) (qs xs : List Row) → r.sequence ≤ s → Above s qs → AllLack qs xs → AllLack qs (join r xs)
lack_still s r [] xs l up h = tt
lack_still s r (q ∷ qs) xs l up h =
    let k = up.0 in
    (lacks_join q.sequence r xs (λ e. omega arith) h.0, lack_still q.sequence r qs xs (omega arith) up.1 h.1)

later_up : (s : ℕ) (qs : List Row) → Above s qs → Ascending qs
later_up s [] h = tt
later_up s (q ∷ qs) h = h.1

all_length : (qs xs : List Row) → Ascending qs → AllLack qs xs → length (all_joined qs xs) ≡ length qs + length xs
all_length [] xs up h = omega arith
all_length (q ∷ qs) xs up h =
    let e = all_length qs (join q xs) (later_up q.sequence qs up) (lack_still q.sequence q qs xs (omega arith) up h.1) in
    let f = new_length q xs h.0 in
    omega arith

lacks_of : (s : ℕ) (xs : List code.Row) → ((i : ℕ) → i < length xs → sequence_at xs i ≡ s → ⊥) → Lacks s (rows_view xs)
lacks_of s [] h = tt
lacks_of s (x ∷ xs) h = (h 0 (omega arith), lacks_of s xs (λ i l. h (suc i) (omega arith)))

of_lacks : (s : ℕ) (xs : List code.Row) → Lacks s (rows_view xs) → (i : ℕ) → i < length xs → sequence_at xs i ≡ s → ⊥
of_lacks s [] h i l e = absurd (omega arith)
of_lacks s (x ∷ xs) h zero l e = h.0 e
of_lacks s (x ∷ xs) h (suc i) l e = of_lacks s xs h.1 i (omega arith) e

all_of : (xs ys : List code.Row) → ((i j : ℕ) → i < length xs → j < length ys → sequence_at xs i ≡ sequence_at ys j → ⊥) → AllLack (rows_view ys) (rows_view xs)
all_of xs [] h = tt
all_of xs (y ∷ ys) h = (lacks_of y.sequence xs (λ i l. h i 0 l (omega arith)), all_of xs ys (λ i j l m. h i (suc j) l (omega arith)))

of_all : (xs ys : List code.Row) → AllLack (rows_view ys) (rows_view xs) → (i j : ℕ) → i < length xs → j < length ys → sequence_at xs i ≡ sequence_at ys j → ⊥
of_all xs [] h i j l m e = absurd (omega arith)
of_all xs (y ∷ ys) h i zero l m e = of_lacks y.sequence xs h.0 i l e
of_all xs (y ∷ ys) h i (suc j) l m e = of_all xs ys h.1 i j l (omega arith) e

module _ (len end : ℕ) (room : List code.Row) (hold : Holding len end room) (r : code.Row) where
  abbrev xs : List code.Row
  xs = take len room

  abbrev ys : List code.Row
  ys = take (end - len) (drop len room)

  long : length xs ≡ len
  long = let a = hold.order in let b = hold.within in length-take-le len room (omega arith)

  short : length ys ≡ end - len
  short = let a = hold.order in let b = hold.within in length-take-le (end - len) (drop len room) (omega (arith, length-drop len room))

  -- the row's weights went to a row of the run
  pub aside_run : (run : List code.Row) → length run ≡ len → rows_view run ≡ join (row_view r) (rows_view xs) → ((i : ℕ) → sequence_at run i ≡ sequence_at xs i) → Held len end (join (row_view r) (held_state len end room)) room (run ++ drop len room)
  aside_run run size joined same =
      let old = laid_of len end room hold in
      let a = hold.order in let b = hold.within in
      let q : len + (end - len) ≡ end = omega arith in
      let laid : Laid run ys (drop end room) len end (run ++ drop len room) = record {
        is = ap (λ (zs : List code.Row). run ++ zs) (sym (take-append-drop (end - len) (drop len room)) ∙ ap (λ (zs : List code.Row). ys ++ zs) (drop-drop (end - len) len room ∙ ap (λ n. drop n room) q));
        len_is = sym size;
        end_is = omega (arith, short);
      } in
      let parts : Parts run ys = record {
        run = subst Ascending (sym joined) (ascending_join (row_view r) (rows_view xs) hold.run);
        held = hold.held;
        apart = record { apart = λ i j l m e. hold.apart.apart i j (omega (arith, long)) m (sym (same i) ∙ e) };
      } in
      record {
        holding = holding_of_parts run ys (drop end room) len end _ laid parts;
        state_is = state_of_parts run ys (drop end room) len end _ laid ∙ ap (all_joined (rows_view ys)) joined ∙ all_swap (row_view r) (rows_view ys) (rows_view xs);
        rest = rest_is run ys (drop end room) len end _ laid;
      }

  module _ (none : (i : ℕ) → i < length xs → sequence_at xs i ≡ r.sequence → ⊥) where
    lack : AllLack (join (row_view r) (rows_view ys)) (rows_view xs)
    lack = all_lack_join (row_view r) (rows_view ys) (rows_view xs) (lacks_of r.sequence xs none) (all_of xs ys hold.apart.apart)

    -- the row went into the batch
    pub aside_batch : (m : ℕ) (held : List code.Row) → Written m (join (row_view r) (rows_view ys)) (drop len room) held → Held len (len + m) (join (row_view r) (held_state len end room)) room (xs ++ held)
    aside_batch m held w =
        let count = w.count in
        let size : length (take m held) ≡ m = sym (length-map (take m held) row_view) ∙ ap length w.here ∙ sym count in
        let laid : Laid xs (take m held) (drop m held) len (len + m) (xs ++ held) = record {
          is = ap (λ (zs : List code.Row). xs ++ zs) (sym (take-append-drop m held));
          len_is = sym long;
          end_is = omega (arith, long);
        } in
        let parts : Parts xs (take m held) = record {
          run = hold.run;
          held = subst Ascending (sym w.here) (ascending_join (row_view r) (rows_view ys) hold.held);
          apart = record { apart = of_all xs (take m held) (subst (λ (zs : List Row). AllLack zs (rows_view xs)) (sym w.here) lack) };
        } in
        record {
          holding = holding_of_parts xs (take m held) (drop m held) len (len + m) _ laid parts;
          state_is = state_of_parts xs (take m held) (drop m held) len (len + m) _ laid ∙ ap (λ (zs : List Row). all_joined zs (rows_view xs)) w.here ∙ all_join (row_view r) (rows_view ys) (rows_view xs);
          rest = rest_is xs (take m held) (drop m held) len (len + m) _ laid ∙ w.rest ∙ drop-drop m len room;
        }

    pub aside_more : (m : ℕ) → m ≡ length (join (row_view r) (rows_view ys)) → end ≤ len + m
    aside_more m e =
        let k = join_longer (row_view r) (rows_view ys) in
        let n = length-map ys row_view in
        let a = hold.order in
        omega (arith, short)

    -- there was no room for it
    pub aside_none : length (drop len room) < length (join (row_view r) (rows_view ys)) → length room < length (join (row_view r) (held_state len end room))
    aside_none l =
        let e = all_length (join (row_view r) (rows_view ys)) (rows_view xs) (ascending_join (row_view r) (rows_view ys) hold.held) lack in
        let f = ap length (all_join (row_view r) (rows_view ys) (rows_view xs)) in
        let n = length-map xs row_view in
        let d = length-drop len room in
        let a = hold.order in let b = hold.within in
        omega (arith, long)

total_all : (b : ℕ) → b < 8 → (qs xs : List Row) → total_of b (all_joined qs xs) ≡ total_of b qs + total_of b xs
total_all b l [] state = sym (zero-add (total_of b state))
total_all b l (q ∷ qs) state =
    let e = total_all b l qs (join q state) in
    let f = total_join b l q state in
    let g = sum_by-cons (weight b) q qs in
    omega arith

pub total_held : (len end : ℕ) (room : List code.Row) (b : ℕ) → b < 8 → total_of b (held_state len end room) ≡ total_of b (rows_view (take (end - len) (drop len room))) + total_of b (rows_view (take len room))
total_held len end room b l = total_all b l (rows_view (take (end - len) (drop len room))) (rows_view (take len room))

ascending_all : (qs xs : List Row) → Ascending xs → Ascending (all_joined qs xs)
ascending_all [] state h = h
ascending_all (q ∷ qs) state h = ascending_all qs (join q state) (ascending_join q state h)

-- a run alone, or a batch alone
pub all_run : (room : List code.Row) (len : ℕ) → len ≤ length room → Ascending (rows_view (take len room)) → Held len len (rows_view (take len room)) room room
all_run room len l up =
    let laid : Laid (take len room) [] (drop len room) len len room = record {
      is = sym (take-append-drop len room);
      len_is = sym (length-take-le len room l);
      end_is = (let n = length-take-le len room l in omega arith);
    } in
    record {
      holding = holding_of_parts (take len room) [] (drop len room) len len room laid (record { run = up; held = tt; apart = record { apart = λ i j k m e. absurd (omega arith) } });
      state_is = state_of_parts (take len room) [] (drop len room) len len room laid;
      rest = refl;
    }

pub all_batch : (room : List code.Row) (len : ℕ) → len ≤ length room → Ascending (rows_view (take len room)) → Held 0 len (rows_view (take len room)) room room
all_batch room len l up =
    let laid : Laid [] (take len room) (drop len room) 0 len room = record {
      is = sym (take-append-drop len room);
      len_is = refl;
      end_is = (let n = length-take-le len room l in omega arith);
    } in
    record {
      holding = holding_of_parts [] (take len room) (drop len room) 0 len room laid (record { run = tt; held = up; apart = record { apart = λ i j k m e. absurd (omega arith) } });
      state_is = state_of_parts [] (take len room) (drop len room) 0 len room laid ∙ all_end (rows_view (take len room)) [] up;
      rest = refl;
    }

-- a batch that is put in
module _ (len end : ℕ) (room : List code.Row) (hold : Holding len end room) (rows : List code.Row) (same : length rows ≡ length (take end room)) (e : rows_view rows ≡ held_state len (length (take end room)) (take end room)) where
  size : length rows ≡ end
  size = let b = hold.within in let n = length-take-le end room b in omega arith

  state : rows_view rows ≡ held_state len end room
  state = e ∙ cut_state len end room hold

  pub put_in_run : Held end end (held_state len end room) room (rows ++ drop end room)
  put_in_run =
      let laid : Laid rows [] (drop end room) end end (rows ++ drop end room) = record {
        is = refl;
        len_is = sym size;
        end_is = omega (arith, size);
      } in
      record {
        holding = holding_of_parts rows [] (drop end room) end end _ laid (record {
          run = subst Ascending (sym state) (ascending_all (rows_view (take (end - len) (drop len room))) (rows_view (take len room)) hold.run);
          held = tt;
          apart = record { apart = λ i j k m e. absurd (omega arith) };
        });
        state_is = state_of_parts rows [] (drop end room) end end _ laid ∙ state;
        rest = rest_is rows [] (drop end room) end end _ laid;
      }

  pub put_in_written : Written end (held_state len end room) room (rows ++ drop end room)
  put_in_written = record {
    count = sym size ∙ sym (length-map rows row_view) ∙ ap length state;
    room = hold.within;
    here = ap rows_view (take_at rows (drop end room) end size) ∙ state;
    rest = drop_at rows (drop end room) end size;
  }

-- A run and a batch at the front of lent rows, while they grow.
pub record Growing (len end : ℕ) (room before : List code.Row) : Type 0 where
  pub holding : Holding len end room
  pub long : length room ≡ length before
  pub rest : drop end room ≡ drop end before

pub growing_held : (len end len' end' : ℕ) (room before after : List code.Row) (S : List Row) → Growing len end room before → length after ≡ length room → end ≤ end' → Held len' end' S room after → Growing len' end' after before
growing_held len end len' end' room before after S g e l h =
    record {
      holding = h.holding;
      long = e ∙ g.long;
      rest = h.rest ∙ drop_same room before end end' l g.rest;
    }

-- where there is no run yet, the batch is the state
module _ (len end : ℕ) (room : List code.Row) (hold : Holding len end room) (zero : len ≡ 0) where
  batch_is : take (end - len) (drop len room) ≡ take end room
  batch_is =
      let q : end - len ≡ end = omega arith in
      ap (λ n. take n (drop len room)) q ∙ ap (λ n. take end (drop n room)) zero

  pub batch_ascends : Ascending (rows_view (take end room))
  batch_ascends = subst (λ (xs : List code.Row). Ascending (rows_view xs)) batch_is hold.held

  pub batch_state : held_state len end room ≡ rows_view (take end room)
  batch_state =
      ap (λ (xs : List code.Row). all_joined (rows_view xs) (rows_view (take len room))) batch_is
      ∙ ap (λ n. all_joined (rows_view (take end room)) (rows_view (take n room))) zero
      ∙ all_end (rows_view (take end room)) [] batch_ascends

  pub batch_put : (r : code.Row) (after : List code.Row) (answer : Option ℕ) → Put answer (join (row_view r) (rows_view (take end room))) room after → length after ≡ length room → PutAside answer len end (join (row_view r) (held_state len end room)) room after
  batch_put r after None l e = let q = ap (λ (xs : List Row). length (join (row_view r) xs)) batch_state in omega arith
  batch_put r after (Some m) w e =
      let up : Ascending (rows_view (take m after)) = subst Ascending (sym w.here) (ascending_join (row_view r) (rows_view (take end room)) batch_ascends) in
      let count = w.count in
      let room_for = w.room in
      let h = all_batch after m (omega arith) up in
      let long = join_longer (row_view r) (rows_view (take end room)) in
      let n = length-map (take end room) row_view in
      let k = length-take-le end room hold.within in (
        omega arith,
        record {
          holding = subst (λ n. Holding n m after) (sym zero) h.holding;
          state_is = ap (λ n. held_state n m after) zero ∙ h.state_is ∙ w.here ∙ ap (join (row_view r)) (sym batch_state);
          rest = w.rest;
        },
      )
