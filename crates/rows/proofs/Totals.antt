-- Totals under an input, and what joining adds to them.
use Rattle.std.proofs.Common.{◌≡◌, ℕ, zero, suc, ◌+◌, ◌*◌, ◌<◌, ◌≤◌, Bool, true, false, cond, ltb, List, [], ◌∷◌, length, get_or, take, sym, ap, ◌∙◌, suc-mul, zero-add, zero-mul, arith}
use Rattle.std.proofs.lemmas.List.Sums.{sum_by-cons, sum_by_push, sum_by-take-le, get_or-le-sum_by}
use Rattle.std.proofs.lemmas.List.FromFn.{get_or-map-range_with_len, length-map-range_with_len, fill_by_all}
use Rattle.std.proofs.lemmas.List.{get_or-map, length-map, map_more, take-map}
use Rattle.cards.specs.Lists.{table}
use Rattle.protocol.specs.Machine.{Mixing}
use Rattle.protocol.specs.States.{Row, weight, added, join, total_of, row_after, joined_after, mixed_by}
use Rattle.rows.specs.declared.row.Row as code
use Rattle.rows.specs.Views.{row_view, rows_view}

pub weight_added : (v w : List ℕ) (b : ℕ) → b < 8 → get_or (added v w) b 0 ≡ get_or v b 0 + get_or w b 0
weight_added v w b l = get_or-map-range_with_len (λ (c : ℕ). get_or v c 0 + get_or w c 0) 0 8 b b 0 l (zero-add b)

pub total_join : (b : ℕ) → b < 8 → (r : Row) (xs : List Row) → total_of b (join r xs) ≡ weight b r + total_of b xs
total_join b l r [] = sum_by-cons (weight b) r []
total_join b l r (x ∷ xs) = go (total_join b l r xs) (ltb r.sequence x.sequence) (ltb x.sequence r.sequence)
  where
    merged : Row
    merged = record { sequence = x.sequence; weights = added x.weights r.weights }

    e : total_of b (x ∷ xs) ≡ weight b x + total_of b xs
    e = sum_by-cons (weight b) x xs

    go : total_of b (join r xs) ≡ weight b r + total_of b xs → (t u : Bool) → total_of b (cond t (r ∷ x ∷ xs) (cond u (x ∷ join r xs) (merged ∷ xs))) ≡ weight b r + total_of b (x ∷ xs)
    go ih true u = sum_by-cons (weight b) r (x ∷ xs)
    go ih false true = let f = sum_by-cons (weight b) x (join r xs) in omega (arith, e)
    go ih false false =
        let f = sum_by-cons (weight b) merged xs in
        let w = weight_added x.weights r.weights b l in
        omega (arith, e)

pub total_joined_after : (b : ℕ) → b < 8 → (n : ℕ) (m : Mixing) (d : ℕ) (rows state : List Row) → total_of b (joined_after n m d rows state) ≡ total_of b rows + total_of b state
total_joined_after b l n m d [] state = sym (zero-add (total_of b state))
total_joined_after b l n m d (r ∷ rs) state =
    let ih = total_joined_after b l n m d rs (join (row_after n m d r) state) in
    let j = total_join b l (row_after n m d r) state in
    let e = sum_by-cons (weight b) r rs in
    omega arith

pub total_mixed_by : (b : ℕ) → b < 8 → (n : ℕ) (m : Mixing) (rows : List Row) (d : ℕ) → total_of b (mixed_by n m rows d) ≡ d * total_of b rows
total_mixed_by b l n m rows zero = sym (zero-mul (total_of b rows))
total_mixed_by b l n m rows (suc d) =
    let ih = total_mixed_by b l n m rows d in
    let j = total_joined_after b l n m d rows (mixed_by n m rows d) in
    let s = suc-mul d (total_of b rows) in
    omega arith

-- the weight of one row is at most the total
pub weight_le : (ys : List code.Row) (i : ℕ) (d : code.Row) (b : ℕ) → i < length ys → get_or (get_or ys i d).weights b 0 ≤ total_of b (rows_view ys)
weight_le ys i d b l =
    let n = length-map ys row_view in
    let e : get_or (rows_view ys) i (row_view d) ≡ row_view (get_or ys i d) = get_or-map row_view ys i d (row_view d) l in
    let f : weight b (get_or (rows_view ys) i (row_view d)) ≡ get_or (get_or ys i d).weights b 0 = ap (weight b) e in
    let k = get_or-le-sum_by (weight b) (rows_view ys) i (row_view d) (omega arith) in
    omega arith

-- the total of the first rows, one row more
pub total_more : (rows : List code.Row) (i : ℕ) (d : code.Row) (b : ℕ) → i < length rows → total_of b (rows_view (take (i + 1) rows)) ≡ total_of b (rows_view (take i rows)) + get_or (get_or rows i d).weights b 0
total_more rows i d b l =
    ap (total_of b) (map_more row_view rows i d l) ∙ sum_by_push (weight b) (rows_view (take i rows)) (row_view (get_or rows i d))

pub total_take_le : (rows : List code.Row) (i b : ℕ) → total_of b (rows_view (take i rows)) ≤ total_of b (rows_view rows)
total_take_le rows i b =
    let e : total_of b (rows_view (take i rows)) ≡ total_of b (take i (rows_view rows)) = ap (total_of b) (sym (take-map row_view i rows)) in
    let k = sum_by-take-le (weight b) (rows_view rows) i in
    omega arith

pub table_at : (f : ℕ → ℕ) (n k : ℕ) → k < n → get_or (table n f) k 0 ≡ f k
table_at f n k l = get_or-map-range_with_len f 0 n k k 0 l (zero-add k)

pub table_same : (n : ℕ) (f g : ℕ → ℕ) → ((k : ℕ) → k < n → f k ≡ g k) → table n f ≡ table n g
table_same n f g h = fill_by_all g (table n f) n 0 (length-map-range_with_len f 0 n) (λ k l. table_at f n k l ∙ h k l)
