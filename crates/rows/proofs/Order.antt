-- Runs of rows whose sequences ascend, and the place of a row in one.
use Rattle.std.proofs.Common.{◌≡◌, ℕ, zero, suc, ◌+◌, ◌<◌, ◌≤◌, Bool, true, false, cond, ltb, List, [], ◌∷◌, length, get_or, set, refl, ap, inl, inr, add-zero, add-suc, arith}
use denote.Param.Members.{Mut}
use denote.Ref.{Bor}
use Rattle.std.specs.Fn.{Called, ComputesKey}
use Rattle.std.specs.List.{insert}
use Rattle.std.specs.List.Sorted.{IsPartitionedBy, IsPartitionPoint}
use Rattle.std.proofs.lemmas.Bool.{lt-ltb, le-ltb, ltb-true, ltb-false, cases_eq}
use Rattle.std.proofs.lemmas.List.Sorted.{IsNonDecreasingBy-from_default, IsPartitionedBy-ltb, IsPartitionPoint-from_clause}
use Rattle.protocol.specs.Machine.{Mixing}
use Rattle.protocol.specs.States.{Row, added, join, row_after, joined_after, mixed_by, Above, Ascending}
use Rattle.rows.specs.declared.row.Row as code
use Rattle.rows.specs.Views.{row_view, rows_view, sequence_at}

above_at : (x : ℕ) (ys : List code.Row) → Above x (rows_view ys) → (j : ℕ) → j < length ys → x < sequence_at ys j
above_at x [] h j l = absurd (omega arith)
above_at x (y ∷ ys) h zero l = h.0
above_at x (y ∷ ys) h (suc j) l = let k = above_at y.sequence ys h.1 j (omega arith) in let m = h.0 in omega arith

later_ascends : (x : ℕ) (ys : List code.Row) → Above x (rows_view ys) → Ascending (rows_view ys)
later_ascends x [] h = tt
later_ascends x (y ∷ ys) h = h.1

pub rising : (ys : List code.Row) → Ascending (rows_view ys) → (i j : ℕ) → i < j → j < length ys → sequence_at ys i < sequence_at ys j
rising [] h i j l m = absurd (omega arith)
rising (y ∷ ys) h i zero l m = absurd (omega arith)
rising (y ∷ ys) h zero (suc j) l m = above_at y.sequence ys h j (omega arith)
rising (y ∷ ys) h (suc i) (suc j) l m = rising ys (later_ascends y.sequence ys h) i j (omega arith) (omega arith)

pub rising_le : (ys : List code.Row) → Ascending (rows_view ys) → (i j : ℕ) → i ≤ j → j < length ys → sequence_at ys i ≤ sequence_at ys j
rising_le ys h i j l m =
    elim (cases_eq i j) [
      | inl e ↦ let q : sequence_at ys i ≡ sequence_at ys j = ap (sequence_at ys) e in omega arith
      | inr ne ↦ let q = rising ys h i j (omega arith) m in omega arith
    ]

-- the rows of the run below a sequence, and those from it on
pub record Parted (run : List code.Row) (s i : ℕ) : Type 0 where
  pub below : (k : ℕ) → k < i → sequence_at run k < s
  pub above : (k : ℕ) → i ≤ k → k < length run → s ≤ sequence_at run k

pub parted : {F : Type 0} {g : Mut F (Bor code.Row × Unit {0}) Bool} {f : F} (run : List code.Row) (s i : ℕ) → ((q : code.Row → Bool) → ComputesKey g q f → IsPartitionedBy q run → IsPartitionPoint (λ y. q y ≡ true) (λ y. q y ≡ false) run i) → Ascending (rows_view run) → ((a : Bor code.Row × Unit {0}) (r : Bool) (f' : F) → Called g f a r f' → (r ≡ ltb a.0.now.sequence s) × (f' ≡ f)) → Parted run s i
parted run s i clause h test =
    let first : code.Row = record { sequence = 0; weights = [] } in
    let p = IsPartitionPoint-from_clause (λ y. ltb y.sequence s) run i clause (IsPartitionedBy-ltb (λ y. y.sequence) run s (IsNonDecreasingBy-from_default (λ y. y.sequence) run first (rising_le run h))) test in
    record {
      below = λ k l. ltb-true (sequence_at run k) s (p.0 k first (omega arith) l);
      above = λ k l m. ltb-false (sequence_at run k) s (p.1 k first l m);
    }

-- the row stands nowhere in the run: it is put in
pub join_new : (r : code.Row) (ys : List code.Row) (i : ℕ) → i ≤ length ys → ((k : ℕ) → k < i → sequence_at ys k < r.sequence) → (i < length ys → r.sequence < sequence_at ys i) → join (row_view r) (rows_view ys) ≡ rows_view (insert ys i r)
join_new r [] zero l below above = refl
join_new r [] (suc i) l below above = absurd (omega arith)
join_new r (y ∷ ys) zero l below above =
    let e = lt-ltb r.sequence y.sequence (above (omega arith)) in rw e
join_new r (y ∷ ys) (suc i) l below above =
    let b = below 0 (omega arith) in
    let e = le-ltb r.sequence y.sequence (omega arith) in
    let f = lt-ltb y.sequence r.sequence b in
    let ih = join_new r ys i (omega arith) (λ k h. below (suc k) (omega arith)) (λ h. above (omega arith)) in
    rw (e, f) (ap (λ (xs : List Row). row_view y ∷ xs) ih)

-- the row's sequence stands in the run: its weights are added
abbrev pub merged : code.Row → code.Row → code.Row
merged y r = record { sequence = y.sequence; weights = added y.weights r.weights }

pub join_same : (r : code.Row) (ys : List code.Row) (i : ℕ) (d : code.Row) → i < length ys → ((k : ℕ) → k < i → sequence_at ys k < r.sequence) → sequence_at ys i ≡ r.sequence → join (row_view r) (rows_view ys) ≡ rows_view (set ys i (merged (get_or ys i d) r))
join_same r [] i d l below e = absurd (omega arith)
join_same r (y ∷ ys) zero d l below e =
    let f = le-ltb r.sequence y.sequence (omega arith) in
    let g = le-ltb y.sequence r.sequence (omega arith) in
    rw (f, g)
join_same r (y ∷ ys) (suc i) d l below e =
    let b = below 0 (omega arith) in
    let f = le-ltb r.sequence y.sequence (omega arith) in
    let g = lt-ltb y.sequence r.sequence b in
    let ih = join_same r ys i d (omega arith) (λ k h. below (suc k) (omega arith)) e in
    rw (f, g) (ap (λ (xs : List Row). row_view y ∷ xs) ih)

-- joining keeps a run ascending
above_join : (x : ℕ) (r : Row) (xs : List Row) → x < r.sequence → Above x xs → Above x (join r xs)
above_join x r [] l h = (l, tt)
above_join x r (y ∷ ys) l h = go (above_join y.sequence r ys) (ltb r.sequence y.sequence) refl (ltb y.sequence r.sequence) refl
  where
    go : (y.sequence < r.sequence → Above y.sequence ys → Above y.sequence (join r ys)) → (t : Bool) → ltb r.sequence y.sequence ≡ t → (u : Bool) → ltb y.sequence r.sequence ≡ u → Above x (cond t (r ∷ y ∷ ys) (cond u (y ∷ join r ys) (record { sequence = y.sequence; weights = added y.weights r.weights } ∷ ys)))
    go ih true e u f = (l, (ltb-true r.sequence y.sequence e, h.1))
    go ih false e true f = (h.0, ih (ltb-true y.sequence r.sequence f) h.1)
    go ih false e false f = (h.0, h.1)

pub ascending_join : (r : Row) (xs : List Row) → Ascending xs → Ascending (join r xs)
ascending_join r [] h = tt
ascending_join r (y ∷ ys) h = go (ltb r.sequence y.sequence) refl (ltb y.sequence r.sequence) refl
  where
    go : (t : Bool) → ltb r.sequence y.sequence ≡ t → (u : Bool) → ltb y.sequence r.sequence ≡ u → Ascending (cond t (r ∷ y ∷ ys) (cond u (y ∷ join r ys) (record { sequence = y.sequence; weights = added y.weights r.weights } ∷ ys)))
    go true e u f = (ltb-true r.sequence y.sequence e, h)
    go false e true f = above_join y.sequence r ys (ltb-true y.sequence r.sequence f) h
    go false e false f = h

-- and never shortens it
pub join_longer : (r : Row) (xs : List Row) → length xs ≤ length (join r xs)
join_longer r [] = omega arith
join_longer r (y ∷ ys) = go (join_longer r ys) (ltb r.sequence y.sequence) (ltb y.sequence r.sequence)
  where
    go : length ys ≤ length (join r ys) → (t u : Bool) → suc (length ys) ≤ length (cond t (r ∷ y ∷ ys) (cond u (y ∷ join r ys) (record { sequence = y.sequence; weights = added y.weights r.weights } ∷ ys)))
    go ih true u = omega arith
    go ih false true = omega arith
    go ih false false = omega arith

pub joined_after_longer : (n : ℕ) (m : Mixing) (d : ℕ) (rows state : List Row) → length state ≤ length (joined_after n m d rows state)
joined_after_longer n m d [] state = omega arith
joined_after_longer n m d (r ∷ rs) state =
    let a = join_longer (row_after n m d r) state in
    let b = joined_after_longer n m d rs (join (row_after n m d r) state) in
    omega arith

pub mixed_by_longer : (n : ℕ) (m : Mixing) (rows : List Row) (d e : ℕ) → length (mixed_by n m rows d) ≤ length (mixed_by n m rows (d + e))
mixed_by_longer n m rows d zero = rw add-zero (omega arith)
mixed_by_longer n m rows d (suc e) =
    let a = mixed_by_longer n m rows d e in
    let b = joined_after_longer n m (d + e) rows (mixed_by n m rows (d + e)) in
    rw add-suc (omega arith)

pub ascending_joined_after : (n : ℕ) (m : Mixing) (d : ℕ) (rows state : List Row) → Ascending state → Ascending (joined_after n m d rows state)
ascending_joined_after n m d [] state h = h
ascending_joined_after n m d (r ∷ rs) state h = ascending_joined_after n m d rs (join (row_after n m d r) state) (ascending_join (row_after n m d r) state h)
