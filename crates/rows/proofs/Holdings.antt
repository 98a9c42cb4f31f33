-- A run and the batch behind it, as lists of their own.
use Rattle.std.proofs.Common.{◌≡◌, ℕ, suc, Bool, true, false, ltb, ◌+◌, ◌-◌, ◌<◌, ◌≤◌, List, [], ◌∷◌, ◌++◌, length, get_or, take, drop, refl, sym, ap, ◌∙◌, subst, inl, inr, arith}
use borrow.Rule.Slice.PartMut.{put_mid}
use Rattle.std.proofs.Math.Seq.{get_or-append_seam}
use Rattle.std.proofs.lemmas.Bool.{cases_eq, ltb-true, ltb-false}
use Rattle.std.proofs.lemmas.List.{map-append, append-nil, append_assoc, take-append-drop, take_all, length-take-le, length-drop, length-append, take_at, drop_at, drop_all, drop_more, drop-drop, get_or-take, get_or_append_left}
use Rattle.protocol.specs.States.{Row, join, Above, Ascending}
use Rattle.rows.specs.declared.row.Row as code
use Rattle.rows.specs.Views.{row_view, rows_view, sequence_at}
use Rattle.rows.specs.Batches.{all_joined, held_state, Apart, Holding}
use Rattle.rows.proofs.Order.{join_new, rising_le, Parted}
use Rattle.rows.proofs.Runs.{past}
use Rattle.rows.proofs.Batches.{last_put, first_part, all_end}

pub record Parts (xs ys : List code.Row) : Type 0 where
  pub run : Ascending (rows_view xs)
  pub held : Ascending (rows_view ys)
  pub apart : Apart xs ys

-- the room of a run, a batch and the rest
pub record Laid (xs ys zs : List code.Row) (len end : ℕ) (room : List code.Row) : Type 0 where
  pub is : room ≡ xs ++ (ys ++ zs)
  pub len_is : len ≡ length xs
  pub end_is : end ≡ length xs + length ys

pub run_is : (xs ys zs : List code.Row) (len end : ℕ) (room : List code.Row) → Laid xs ys zs len end room → take len room ≡ xs
run_is xs ys zs len end room l = ap (take len) l.is ∙ take_at xs (ys ++ zs) len (sym l.len_is)

pub held_is : (xs ys zs : List code.Row) (len end : ℕ) (room : List code.Row) → Laid xs ys zs len end room → take (end - len) (drop len room) ≡ ys
held_is xs ys zs len end room l =
    ap (λ (rs : List code.Row). take (end - len) (drop len rs)) l.is ∙ ap (take (end - len)) (drop_at xs (ys ++ zs) len (sym l.len_is))
    ∙ take_at ys zs (end - len) (let a = l.len_is in let b = l.end_is in omega arith)

pub rest_is : (xs ys zs : List code.Row) (len end : ℕ) (room : List code.Row) → Laid xs ys zs len end room → drop end room ≡ zs
rest_is xs ys zs len end room l =
    ap (drop end) (l.is ∙ sym (append_assoc xs ys zs)) ∙ drop_at (xs ++ ys) zs end (length-append xs ys ∙ sym l.end_is)

pub state_of_parts : (xs ys zs : List code.Row) (len end : ℕ) (room : List code.Row) → Laid xs ys zs len end room → held_state len end room ≡ all_joined (rows_view ys) (rows_view xs)
state_of_parts xs ys zs len end room l =
    ap (λ (rs : List code.Row). all_joined (rows_view (take (end - len) (drop len room))) (rows_view rs)) (run_is xs ys zs len end room l)
    ∙ ap (λ (rs : List code.Row). all_joined (rows_view rs) (rows_view xs)) (held_is xs ys zs len end room l)

pub holding_of_parts : (xs ys zs : List code.Row) (len end : ℕ) (room : List code.Row) → Laid xs ys zs len end room → Parts xs ys → Holding len end room
holding_of_parts xs ys zs len end room l p =
    let e = run_is xs ys zs len end room l in
    let f = held_is xs ys zs len end room l in
    let a = l.len_is in let b = l.end_is in
    record {
      order = omega arith;
      within = (let n = ap length l.is ∙ length-append xs (ys ++ zs) in let m = length-append ys zs in omega arith);
      run = subst (λ (rs : List code.Row). Ascending (rows_view rs)) (sym e) p.run;
      held = subst (λ (rs : List code.Row). Ascending (rows_view rs)) (sym f) p.held;
      apart = subst (λ (rs : List code.Row). Apart (take len room) rs) (sym f) (subst (λ (rs : List code.Row). Apart rs ys) (sym e) p.apart);
    }

pub parts_of : (len end : ℕ) (room : List code.Row) → Holding len end room → Parts (take len room) (take (end - len) (drop len room))
parts_of len end room h = record { run = h.run; held = h.held; apart = h.apart }

pub laid_of : (len end : ℕ) (room : List code.Row) → Holding len end room → Laid (take len room) (take (end - len) (drop len room)) (drop end room) len end room
laid_of len end room h =
    let a = h.order in let b = h.within in
    let q : len + (end - len) ≡ end = omega arith in
    record {
      is = sym (take-append-drop len room) ∙ ap (λ (rs : List code.Row). take len room ++ rs) (sym (take-append-drop (end - len) (drop len room)) ∙ ap (λ (rs : List code.Row). take (end - len) (drop len room) ++ rs) (drop-drop (end - len) len room ∙ ap (λ n. drop n room) q));
      len_is = sym (length-take-le len room (omega arith));
      end_is = (let n = length-take-le len room (omega arith) in let m = length-take-le (end - len) (drop len room) (let d = length-drop len room in omega arith) in omega arith);
    }

pub parts_front : (xs ms ys : List code.Row) (b : code.Row) → Parts (xs ++ ms) (ys ++ b ∷ []) → Parts xs ys
parts_front xs ms ys b p =
    let n = length-append xs ms in let m = length-append ys (b ∷ []) in
    record {
      run = first_part (rows_view xs) (rows_view ms) (subst Ascending (map-append row_view xs ms) p.run);
      held = first_part (rows_view ys) (row_view b ∷ []) (subst Ascending (map-append row_view ys (b ∷ [])) p.held);
      apart = record {
        apart = λ i j k l e.
            p.apart.apart i j (omega arith) (omega arith)
            (ap (λ (r : code.Row). r.sequence) (get_or_append_left xs ms past i k) ∙ e ∙ sym (ap (λ (r : code.Row). r.sequence) (get_or_append_left ys (b ∷ []) past j l)));
      };
    }

-- the last row of the batch, with those before it, is turned to its place in the run
pub turned : (ps ms ys : List code.Row) (b : code.Row) (room new : List code.Row) (at k held : ℕ) → room ≡ ps ++ (ms ++ (ys ++ b ∷ [])) → at ≡ length ps → held ≡ length ys + 1 → k ≡ length ms + held → new ≡ drop (length (take k (drop at room)) - held) (take k (drop at room)) ++ take (length (take k (drop at room)) - held) (take k (drop at room)) → put_mid at k room new ≡ ps ++ (ys ++ b ∷ ms)
turned ps ms ys b room new at k held e f g h w =
    let part : drop at room ≡ ms ++ (ys ++ b ∷ []) = ap (drop at) e ∙ drop_at ps (ms ++ (ys ++ b ∷ [])) at (sym f) in
    let size : length (ms ++ (ys ++ b ∷ [])) ≡ k = length-append ms (ys ++ b ∷ []) ∙ (let m = length-append ys (b ∷ []) in omega arith) in
    let whole : take k (drop at room) ≡ ms ++ (ys ++ b ∷ []) = ap (take k) part ∙ take_all k (ms ++ (ys ++ b ∷ [])) (omega arith) in
    let cut : length (take k (drop at room)) - held ≡ length ms = (let q = ap length whole in omega arith) in
    let new-is : new ≡ (ys ++ b ∷ []) ++ ms =
    w ∙ ap (λ (xs : List code.Row). drop (length (take k (drop at room)) - held) xs ++ take (length (take k (drop at room)) - held) xs) whole
    ∙ ap (λ n. drop n (ms ++ (ys ++ b ∷ [])) ++ take n (ms ++ (ys ++ b ∷ []))) cut
    ∙ ap (λ (xs : List code.Row). xs ++ take (length ms) (ms ++ (ys ++ b ∷ []))) (drop_at ms (ys ++ b ∷ []) (length ms) refl)
    ∙ ap (λ (xs : List code.Row). (ys ++ b ∷ []) ++ xs) (take_at ms (ys ++ b ∷ []) (length ms) refl) in
    let front : take at room ≡ ps = ap (take at) e ∙ take_at ps (ms ++ (ys ++ b ∷ [])) at (sym f) in
    let back : drop k (drop at room) ≡ [] = ap (drop k) part ∙ drop_all k (ms ++ (ys ++ b ∷ [])) (omega arith) in
    ap (λ (xs : List code.Row). xs ++ (new ++ drop k (drop at room))) front
    ∙ ap (λ (xs : List code.Row). ps ++ (new ++ xs)) back
    ∙ ap (λ (xs : List code.Row). ps ++ xs) (append-nil new ∙ new-is ∙ append_assoc ys (b ∷ []) ms)

-- a row that comes after the run's rows below, and is not the one there, stands nowhere in it
pub missing : (run : List code.Row) (s at : ℕ) → Ascending (rows_view run) → Parted run s at → (at < length run → sequence_at run at ≡ s → ⊥) → (i : ℕ) → i < length run → sequence_at run i ≡ s → ⊥
missing run s at h p ne i l e = go (ltb i at) refl
  where
    go : (t : Bool) → ltb i at ≡ t → ⊥
    go true q = let u = p.below i (ltb-true i at q) in omega arith
    go false q =
        let le = ltb-false i at q in
        let u = p.above at (omega arith) (omega arith) in
        let v = rising_le run h at i le l in
        ne (omega arith) (omega arith)

above_first : (x : ℕ) (ys : List code.Row) → Ascending (rows_view ys) → (0 < length ys → x < sequence_at ys 0) → Above x (rows_view ys)
above_first x [] h l = tt
above_first x (y ∷ ys) h l = (l (omega arith), h)

all_ascends : (xs ys : List code.Row) → Ascending (rows_view xs) → Ascending (rows_view ys) → ((i : ℕ) → i + 1 ≡ length xs → 0 < length ys → sequence_at xs i < sequence_at ys 0) → Ascending (rows_view xs ++ rows_view ys)
all_ascends [] ys h k l = k
all_ascends (x ∷ []) ys h k l = above_first x.sequence ys k (l 0 refl)
all_ascends (x ∷ x' ∷ xs) ys h k l = (h.0, all_ascends (x' ∷ xs) ys h.1 k (λ i e m. l (suc i) (omega arith) m))

-- a batch that comes after the run is settled
pub settled_already : (room : List code.Row) (len : ℕ) → Holding len (length room) room → (0 < len → len < length room → sequence_at room (len - 1) < sequence_at room len) → rows_view room ≡ held_state len (length room) room
settled_already room len hold l =
    let h = hold.order in
    let xs : List code.Row = take len room in
    let ys : List code.Row = take (length room - len) (drop len room) in
    let long : length xs ≡ len = length-take-le len room h in
    let short : length ys ≡ length room - len = length-take-le (length room - len) (drop len room) (omega (arith, length-drop len room)) in
    let up : Ascending (rows_view xs ++ rows_view ys) =
    all_ascends xs ys hold.run hold.held (λ i e m.
    let q : i ≡ len - 1 = omega arith in
    let f : sequence_at xs i ≡ sequence_at room (len - 1) = ap (λ (r : code.Row). r.sequence) (get_or-take len room i past (omega arith)) ∙ ap (sequence_at room) q in
    let g : sequence_at ys 0 ≡ sequence_at room len = ap (λ (r : code.Row). r.sequence) (get_or-take (length room - len) (drop len room) 0 past (omega arith) ∙ ap (λ (zs : List code.Row). get_or zs 0 past) (drop_more room len past (omega arith))) in
    let k = l (omega arith) (omega arith) in
    omega arith) in
    let laid = laid_of len (length room) room hold in
    let none : drop (length room) room ≡ [] = drop_all (length room) room (omega arith) in
    let is : room ≡ xs ++ ys = laid.is ∙ ap (λ (zs : List code.Row). xs ++ (ys ++ zs)) none ∙ ap (λ (zs : List code.Row). xs ++ zs) (append-nil ys) in
    ap rows_view is ∙ map-append row_view xs ys ∙ sym (all_end (rows_view ys) (rows_view xs) up)

-- the run and the batch without what comes after them
module _ (len end : ℕ) (room : List code.Row) (hold : Holding len end room) where
  cut : Laid (take len room) (take (end - len) (drop len room)) [] len (length (take end room)) (take end room)
  cut =
      let laid = laid_of len end room hold in
      let a = laid.end_is in
      let size : length (take len room ++ take (end - len) (drop len room)) ≡ end = length-append (take len room) (take (end - len) (drop len room)) ∙ sym a in
      let e : take end room ≡ take len room ++ take (end - len) (drop len room) =
      ap (take end) (laid.is ∙ sym (append_assoc (take len room) (take (end - len) (drop len room)) (drop end room)))
      ∙ take_at (take len room ++ take (end - len) (drop len room)) (drop end room) end size in
      record {
        is = e ∙ ap (λ (zs : List code.Row). take len room ++ zs) (sym (append-nil (take (end - len) (drop len room))));
        len_is = laid.len_is;
        end_is = ap length e ∙ length-append (take len room) (take (end - len) (drop len room));
      }

  pub cut_holding : Holding len (length (take end room)) (take end room)
  cut_holding = holding_of_parts (take len room) (take (end - len) (drop len room)) [] len _ _ cut (parts_of len end room hold)

  pub cut_state : held_state len (length (take end room)) (take end room) ≡ held_state len end room
  cut_state = state_of_parts (take len room) (take (end - len) (drop len room)) [] len _ _ cut

-- a batch that is settled by its last row first
module _ (room : List code.Row) (len at : ℕ) (hold : Holding len (length room) room) (some : len < length room) (within : at ≤ len) (p : Parted (take len room) (get_or room (length room - 1) past).sequence at) where
  abbrev b : code.Row
  b = get_or room (length room - 1) past

  abbrev pub ps : List code.Row
  ps = take at (take len room)

  abbrev ms : List code.Row
  ms = drop at (take len room)

  abbrev pub ys : List code.Row
  ys = take (length room - 1 - len) (drop len room)

  long : length (take len room) ≡ len
  long = length-take-le len room (omega arith)

  ps_long : length ps ≡ at
  ps_long = length-take-le at (take len room) (omega (arith, long))

  ms_long : length ms ≡ len - at
  ms_long = length-drop at (take len room) ∙ ap (λ m. m - at) long

  ys_long : length ys ≡ length room - 1 - len
  ys_long = length-take-le (length room - 1 - len) (drop len room) (omega (arith, length-drop len room))

  run_parts : take len room ≡ ps ++ ms
  run_parts = sym (take-append-drop at (take len room))

  last_row : drop (length room - 1) room ≡ b ∷ []
  last_row = drop_more room (length room - 1) past (omega arith) ∙ ap (λ (xs : List code.Row). b ∷ xs) (drop_all (length room - 1 + 1) room (omega arith))

  batch_parts : drop len room ≡ ys ++ b ∷ []
  batch_parts =
      sym (take-append-drop (length room - 1 - len) (drop len room))
      ∙ ap (λ (xs : List code.Row). ys ++ xs) (drop-drop (length room - 1 - len) len room ∙ ap (λ m. drop m room) (let q : len + (length room - 1 - len) ≡ length room - 1 = omega arith in q) ∙ last_row)

  held_parts : take (length room - len) (drop len room) ≡ ys ++ b ∷ []
  held_parts = take_all (length room - len) (drop len room) (omega (arith, length-drop len room)) ∙ batch_parts

  whole : room ≡ ps ++ (ms ++ (ys ++ b ∷ []))
  whole = sym (take-append-drop len room) ∙ ap (λ (xs : List code.Row). xs ++ drop len room) run_parts ∙ append_assoc ps ms (drop len room) ∙ ap (λ (xs : List code.Row). ps ++ (ms ++ xs)) batch_parts

  both_parts : Parts (ps ++ ms) (ys ++ b ∷ [])
  both_parts = subst (λ (xs : List code.Row). Parts (ps ++ ms) xs) held_parts (subst (λ (xs : List code.Row). Parts xs (take (length room - len) (drop len room))) run_parts (parts_of len (length room) room hold))

  above : at < length (take len room) → b.sequence < sequence_at (take len room) at
  above h =
      let u = p.above at (omega arith) h in
      elim (cases_eq (sequence_at (take len room) at) b.sequence) [
        | inl e ↦ absurd (hold.apart.apart at (length ys) h (let q = ap length held_parts in let r = length-append ys (b ∷ []) in omega arith)
            (e ∙ sym (ap (λ (xs : List code.Row). sequence_at xs (length ys)) held_parts ∙ ap (λ (r : code.Row). r.sequence) (get_or-append_seam ys b [] past))))
        | inr d ↦ omega arith
      ]

  put_in : join (row_view b) (rows_view ps ++ rows_view ms) ≡ rows_view ps ++ row_view b ∷ rows_view ms
  put_in =
      ap (join (row_view b)) (sym (map-append row_view ps ms) ∙ ap rows_view (sym run_parts))
      ∙ join_new b (take len room) at (omega (arith, long)) p.below above
      ∙ map-append row_view ps (b ∷ ms)

  pub settled : all_joined (rows_view (take (length room - len) (drop len room))) (rows_view (take len room)) ≡ all_joined (rows_view ys) (rows_view ps) ++ rows_view (b ∷ ms)
  settled =
      ap (λ (xs : List code.Row). all_joined (rows_view xs) (rows_view (take len room))) held_parts
      ∙ ap (λ (xs : List code.Row). all_joined (rows_view (ys ++ b ∷ [])) (rows_view xs)) run_parts
      ∙ ap (λ (xs : List Row). all_joined xs (rows_view (ps ++ ms))) (map-append row_view ys (b ∷ []))
      ∙ ap (all_joined (rows_view ys ++ row_view b ∷ [])) (map-append row_view ps ms)
      ∙ last_put (rows_view ys) (rows_view ps) (rows_view ms) (row_view b) (subst Ascending (map-append row_view ys (b ∷ [])) both_parts.held) put_in

  module _ (room' new : List code.Row) (e : room' ≡ put_mid at (length room - at) room new) (w : new ≡ drop (length (take (length room - at) (drop at room)) - (length room - len)) (take (length room - at) (drop at room)) ++ take (length (take (length room - at) (drop at room)) - (length room - len)) (take (length room - at) (drop at room))) where
    after : room' ≡ (ps ++ ys) ++ b ∷ ms
    after =
        e ∙ turned ps ms ys b room new at (length room - at) (length room - len) whole (sym ps_long) (omega (arith, ys_long)) (omega (arith, ms_long)) w
        ∙ sym (append_assoc ps ys (b ∷ ms))

    size : length (ps ++ ys) ≡ at + (length room - len) - 1
    size = length-append ps ys ∙ omega (arith, ps_long, ys_long)

    front : take (at + (length room - len) - 1) room' ≡ ps ++ ys
    front = ap (take (at + (length room - len) - 1)) after ∙ take_at (ps ++ ys) (b ∷ ms) (at + (length room - len) - 1) size

    back : drop (at + (length room - len) - 1) room' ≡ b ∷ ms
    back = ap (drop (at + (length room - len) - 1)) after ∙ drop_at (ps ++ ys) (b ∷ ms) (at + (length room - len) - 1) size

    laid : Laid ps ys [] at (length (take (at + (length room - len) - 1) room')) (take (at + (length room - len) - 1) room')
    laid = record {
      is = front ∙ ap (λ (xs : List code.Row). ps ++ xs) (sym (append-nil ys));
      len_is = sym ps_long;
      end_is = ap length front ∙ length-append ps ys;
    }

    pub turned_holding : Holding at (length (take (at + (length room - len) - 1) room')) (take (at + (length room - len) - 1) room')
    turned_holding = holding_of_parts ps ys [] at _ _ laid (parts_front ps ms ys b both_parts)

    pub turned_shorter : length (take (at + (length room - len) - 1) room') < length room
    turned_shorter = let q = ap length front in omega (arith, size)

    pub turned_settled : (sub : List code.Row) → rows_view sub ≡ held_state at (length (take (at + (length room - len) - 1) room')) (take (at + (length room - len) - 1) room') → rows_view (sub ++ drop (at + (length room - len) - 1) room') ≡ held_state len (length room) room
    turned_settled sub q =
        map-append row_view sub (drop (at + (length room - len) - 1) room')
        ∙ ap (λ (xs : List Row). xs ++ rows_view (drop (at + (length room - len) - 1) room')) (q ∙ state_of_parts ps ys [] at _ _ laid)
        ∙ ap (λ (xs : List code.Row). all_joined (rows_view ys) (rows_view ps) ++ rows_view xs) back
        ∙ sym settled
