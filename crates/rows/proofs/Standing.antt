-- A run that grows, row by row, at the front of lent rows.
use Rattle.std.proofs.Common.{◌≡◌, ℕ, ◌+◌, ◌-◌, ◌<◌, ◌≤◌, List, ◌∷◌, length, get_or, take, drop, sym, refl, ap, ◌∙◌, subst, arith}
use Rattle.std.proofs.lemmas.List.{length-map, length-take-le, drop-drop, drop_more}
use Rattle.std.proofs.lemmas.List.Sums.{sum_by-cons}
use Rattle.protocol.specs.Machine.{Mixing}
use Rattle.protocol.specs.States.{Row, weight, join, total_of, row_after, joined_after, Ascending}
use Rattle.rows.specs.declared.row.Row as code
use Rattle.rows.specs.Views.{row_view, rows_view, Written}
use Rattle.rows.proofs.Order.{ascending_join, join_longer, joined_after_longer}
use Rattle.rows.proofs.Runs.{past}
use Rattle.rows.proofs.Totals.{total_join}

pub record Standing (len : ℕ) (room before : List code.Row) : Type 0 where
  pub within : len ≤ length room
  pub long : length room ≡ length before
  pub ascending : Ascending (rows_view (take len room))
  pub rest : drop len room ≡ drop len before

pub view_length : (len : ℕ) (room : List code.Row) → len ≤ length room → length (rows_view (take len room)) ≡ len
view_length len room h = length-map (take len room) row_view ∙ length-take-le len room h

pub drop_same : (xs ys : List code.Row) (i j : ℕ) → i ≤ j → drop i xs ≡ drop i ys → drop j xs ≡ drop j ys
drop_same xs ys i j l e =
    let k : i + (j - i) ≡ j = omega arith in
    subst (λ (n : ℕ). drop n xs ≡ drop n ys) k (sym (drop-drop (j - i) i xs) ∙ ap (drop (j - i)) e ∙ drop-drop (j - i) i ys)

-- a longer run is written over one that stands
pub standing_written : (len m : ℕ) (room before after : List code.Row) (state : List Row) → Standing len room before → length after ≡ length room → len ≤ length state → Ascending state → Written m state room after → Standing m after before
standing_written len m room before after state s e l up w =
    record {
      within = (let a = w.room in omega arith);
      long = e ∙ s.long;
      ascending = subst Ascending (sym w.here) up;
      rest = w.rest ∙ drop_same room before len m (let c = w.count in omega arith) s.rest;
    }

pub standing_join : (len m : ℕ) (room before after : List code.Row) (r : Row) → Standing len room before → length after ≡ length room → Written m (join r (rows_view (take len room))) room after → Standing m after before
standing_join len m room before after r s e w =
    standing_written len m room before after (join r (rows_view (take len room))) s e
    (let a = view_length len room s.within in let b = join_longer r (rows_view (take len room)) in omega arith)
    (ascending_join r (rows_view (take len room)) s.ascending) w

pub written_standing : (len : ℕ) (room before : List code.Row) (state : List Row) → Standing len room before → rows_view (take len room) ≡ state → Written len state before room
written_standing len room before state s e =
    record {
      count = sym (view_length len room s.within) ∙ ap length e;
      room = (let a = s.within in let b = s.long in omega arith);
      here = e;
      rest = s.rest;
    }

-- one row of those that are read
module _ (rows : List code.Row) (i : ℕ) (l : i < length rows) where
  pub next_row : rows_view (drop i rows) ≡ row_view (get_or rows i past) ∷ rows_view (drop (i + 1) rows)
  next_row = ap rows_view (drop_more rows i past l)

  pub next_weight : (b : ℕ) → total_of b (rows_view (drop i rows)) ≡ get_or (get_or rows i past).weights b 0 + total_of b (rows_view (drop (i + 1) rows))
  next_weight b = ap (total_of b) next_row ∙ sum_by-cons (weight b) (row_view (get_or rows i past)) (rows_view (drop (i + 1) rows))

  module _ (x : code.Row) (S T : List Row) (e : T ≡ join (row_view x) S) where
    pub next_state : (n : ℕ) (m : Mixing) (d : ℕ) → row_view x ≡ row_after n m d (row_view (get_or rows i past)) → joined_after n m d (rows_view (drop (i + 1) rows)) T ≡ joined_after n m d (rows_view (drop i rows)) S
    next_state n m d q =
        ap (joined_after n m d (rows_view (drop (i + 1) rows))) (e ∙ ap (λ (r : Row). join r S) q)
        ∙ sym (ap (λ (xs : List Row). joined_after n m d xs S) next_row)

    pub next_total : (b : ℕ) → b < 8 → x.weights ≡ (get_or rows i past).weights → total_of b (rows_view (drop (i + 1) rows)) + total_of b T ≡ total_of b (rows_view (drop i rows)) + total_of b S
    next_total b h w =
        let a = next_weight b in
        let j : total_of b T ≡ get_or x.weights b 0 + total_of b S = ap (total_of b) e ∙ total_join b h (row_view x) S in
        let v : get_or x.weights b 0 ≡ get_or (get_or rows i past).weights b 0 = ap (λ (ws : List ℕ). get_or ws b 0) w in
        omega arith

  -- a row that finds no room leaves no room for the state
  pub next_longer : (x : code.Row) (S : List Row) (n : ℕ) (m : Mixing) (d : ℕ) → row_view x ≡ row_after n m d (row_view (get_or rows i past)) → length (join (row_view x) S) ≤ length (joined_after n m d (rows_view (drop i rows)) S)
  next_longer x S n m d q =
      let e : joined_after n m d (rows_view (drop (i + 1) rows)) (join (row_view x) S) ≡ joined_after n m d (rows_view (drop i rows)) S = next_state x S (join (row_view x) S) refl n m d q in
      let b = joined_after_longer n m d (rows_view (drop (i + 1) rows)) (join (row_view x) S) in
      let k : length (joined_after n m d (rows_view (drop (i + 1) rows)) (join (row_view x) S)) ≡ length (joined_after n m d (rows_view (drop i rows)) S) = ap length e in
      omega arith
