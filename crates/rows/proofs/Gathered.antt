-- Rows copied in order, those that pass a test.
use Rattle.std.proofs.Common.{◌≡◌, ℕ, ◌+◌, ◌<◌, ◌≤◌, Bool, true, false, cond, not, List, [], ◌∷◌, ◌++◌, length, get_or, take, drop, set, filter, sym, refl, ap, ◌∙◌, arith}
use Rattle.std.proofs.lemmas.List.Elements.{filter-append}
use Rattle.std.proofs.lemmas.List.Filters.{sum_by-filter_both}
use Rattle.std.proofs.lemmas.List.{map_more, map_push, map-append, take_more_set, take_all, take-append-drop, drop-set-lt, append-nil, length-append, length_push, length-set}
use Rattle.protocol.specs.States.{Row, weight, total_of}
use Rattle.rows.specs.declared.row.Row as code
use Rattle.rows.specs.Views.{row_view, rows_view, Written}
use Rattle.rows.proofs.Runs.{past}
use Rattle.rows.proofs.Standing.{drop_same, view_length}

module _ (test : Row → Bool) (rows : List code.Row) where
  -- the first rows that are read are copied as far as they pass
  pub record Copied (i len : ℕ) (room before : List code.Row) : Type 0 where
    pub within : len ≤ length room
    pub long : length room ≡ length before
    pub here : rows_view (take len room) ≡ filter test (rows_view (take i rows))
    pub rest : drop len room ≡ drop len before

  more : (i : ℕ) → i < length rows → filter test (rows_view (take (i + 1) rows)) ≡ filter test (rows_view (take i rows)) ++ cond (test (row_view (get_or rows i past))) (row_view (get_or rows i past) ∷ []) []
  more i l = ap (filter test) (map_more row_view rows i past l) ∙ filter-append test (rows_view (take i rows)) (row_view (get_or rows i past) ∷ [])

  more_yes : (i : ℕ) → i < length rows → test (row_view (get_or rows i past)) ≡ true → filter test (rows_view (take (i + 1) rows)) ≡ filter test (rows_view (take i rows)) ++ row_view (get_or rows i past) ∷ []
  more_yes i l e = more i l ∙ ap (λ (t : Bool). filter test (rows_view (take i rows)) ++ cond t (row_view (get_or rows i past) ∷ []) []) e

  more_no : (i : ℕ) → i < length rows → test (row_view (get_or rows i past)) ≡ false → filter test (rows_view (take (i + 1) rows)) ≡ filter test (rows_view (take i rows))
  more_no i l e = more i l ∙ ap (λ (t : Bool). filter test (rows_view (take i rows)) ++ cond t (row_view (get_or rows i past) ∷ []) []) e ∙ append-nil (filter test (rows_view (take i rows)))

  module _ (i len : ℕ) (room before : List code.Row) (w : Copied i len room before) (l : i < length rows) where
    pub copied_yes : len < length room → test (row_view (get_or rows i past)) ≡ true → Copied (i + 1) (len + 1) (set room len (get_or rows i past)) before
    copied_yes k e =
        let x : code.Row = get_or rows i past in
        record {
          within = (let n = length-set room len x in omega arith);
          long = length-set room len x ∙ w.long;
          here = ap rows_view (take_more_set room len x k) ∙ map_push row_view (take len room) x ∙ ap (λ (xs : List Row). xs ++ row_view x ∷ []) w.here ∙ sym (more_yes i l e);
          rest = drop-set-lt (len + 1) room len x (omega arith) ∙ drop_same room before len (len + 1) (omega arith) w.rest;
        }

    pub copied_no : test (row_view (get_or rows i past)) ≡ false → Copied (i + 1) len room before
    copied_no e = record { within = w.within; long = w.long; here = w.here ∙ sym (more_no i l e); rest = w.rest }

    -- one more that passes and finds no room
    pub copied_full : length room ≤ len → test (row_view (get_or rows i past)) ≡ true → length before < length (filter test (rows_view rows))
    copied_full k e =
        let a : length (filter test (rows_view (take (i + 1) rows))) ≡ length (filter test (rows_view (take i rows))) + 1 = ap length (more_yes i l e) ∙ length_push (filter test (rows_view (take i rows))) (row_view (get_or rows i past)) in
        let b : length (filter test (rows_view (take i rows))) ≡ len = sym (ap length w.here) ∙ view_length len room w.within in
        let c : filter test (rows_view rows) ≡ filter test (rows_view (take (i + 1) rows)) ++ filter test (rows_view (drop (i + 1) rows)) =
        ap (λ (xs : List code.Row). filter test (rows_view xs)) (sym (take-append-drop (i + 1) rows))
        ∙ ap (filter test) (map-append row_view (take (i + 1) rows) (drop (i + 1) rows))
        ∙ filter-append test (rows_view (take (i + 1) rows)) (rows_view (drop (i + 1) rows)) in
        let d : length (filter test (rows_view rows)) ≡ length (filter test (rows_view (take (i + 1) rows))) + length (filter test (rows_view (drop (i + 1) rows))) =
        ap length c ∙ length-append (filter test (rows_view (take (i + 1) rows))) (filter test (rows_view (drop (i + 1) rows))) in
        let e = w.long in
        omega arith

  pub copied_all : (i len : ℕ) (room before : List code.Row) → Copied i len room before → length rows ≤ i → Written len (filter test (rows_view rows)) before room
  copied_all i len room before w l =
      let e : rows_view (take len room) ≡ filter test (rows_view rows) = w.here ∙ ap (λ (xs : List code.Row). filter test (rows_view xs)) (take_all i rows l) in
      record {
        count = sym (view_length len room w.within) ∙ ap length e;
        room = (let a = w.within in let b = w.long in omega arith);
        here = e;
        rest = w.rest;
      }

  pub kept_total : (b : ℕ) → total_of b (filter test (rows_view rows)) ≤ total_of b (rows_view rows)
  kept_total b = let e = sum_by-filter_both test (λ x. not (test x)) (λ x. refl) (weight b) (rows_view rows) in omega arith
