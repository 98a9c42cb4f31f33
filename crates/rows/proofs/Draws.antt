-- One draw of a mixing after another.
use Rattle.std.proofs.Common.{◌≡◌, ℕ, suc, ◌+◌, ◌-◌, ◌*◌, ◌<◌, ◌≤◌, List, length, take, sym, ap, ◌∙◌, suc-mul, add-one, arith}
use Rattle.protocol.specs.Machine.{Mixing}
use Rattle.protocol.specs.States.{Row, total_of, joined_after, mixed_by}
use Rattle.rows.specs.declared.row.Row as code
use Rattle.rows.specs.Views.{rows_view, Written}
use Rattle.rows.proofs.Order.{ascending_joined_after, joined_after_longer, mixed_by_longer}
use Rattle.rows.proofs.Standing.{Standing, view_length, standing_written}
use Rattle.rows.proofs.Totals.{total_joined_after}

module _ (n : ℕ) (m : Mixing) (rows : List Row) (d : ℕ) (S : List Row) where
  pub draw_state : (T : List Row) → S ≡ mixed_by n m rows d → T ≡ joined_after n m d rows S → T ≡ mixed_by n m rows (d + 1)
  draw_state T e f = f ∙ ap (joined_after n m d rows) e ∙ ap (mixed_by n m rows) (sym (add-one d))

  pub draw_total : (b : ℕ) (T : List Row) → b < 8 → total_of b S ≡ d * total_of b rows → T ≡ joined_after n m d rows S → total_of b T ≡ (d + 1) * total_of b rows
  draw_total b T l e f =
      let j : total_of b T ≡ total_of b rows + total_of b S = ap (total_of b) f ∙ total_joined_after b l n m d rows S in
      let k = suc-mul d (total_of b rows) in
      let a : (d + 1) * total_of b rows ≡ suc d * total_of b rows = ap (λ (x : ℕ). x * total_of b rows) (add-one d) in
      omega arith

  -- a draw that finds no room leaves no room for the state
  pub draw_longer : (total : ℕ) → d < total → S ≡ mixed_by n m rows d → length (joined_after n m d rows S) ≤ length (mixed_by n m rows total)
  draw_longer total l e =
      let f : joined_after n m d rows S ≡ mixed_by n m rows (suc d) = ap (joined_after n m d rows) e in
      let g : suc d + (total - suc d) ≡ total = omega arith in
      let k = mixed_by_longer n m rows (suc d) (total - suc d) in
      let p : length (joined_after n m d rows S) ≡ length (mixed_by n m rows (suc d)) = ap length f in
      let q : length (mixed_by n m rows (suc d + (total - suc d))) ≡ length (mixed_by n m rows total) = ap (λ (x : ℕ). length (mixed_by n m rows x)) g in
      omega arith

pub draw_stands : (n : ℕ) (m : Mixing) (rows : List Row) (d len k : ℕ) (room before after : List code.Row) → Standing len room before → length after ≡ length room → Written k (joined_after n m d rows (rows_view (take len room))) room after → Standing k after before
draw_stands n m rows d len k room before after s e w =
    standing_written len k room before after (joined_after n m d rows (rows_view (take len room))) s e
    (let a = view_length len room s.within in let b = joined_after_longer n m d rows (rows_view (take len room)) in omega arith)
    (ascending_joined_after n m d rows (rows_view (take len room)) s.ascending) w
