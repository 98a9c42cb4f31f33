-- Rows joined one after another: their order does not matter, and rows held back are joined as they would have been.
use Rattle.std.proofs.Common.{◌≡◌, ℕ, ◌+◌, ◌<◌, ◌≤◌, Bool, true, false, ltb, List, [], ◌∷◌, ◌++◌, get_or, refl, sym, ap, ◌∙◌, subst, inl, inr, arith}
use Rattle.std.proofs.lemmas.Bool.{lt-ltb, le-ltb, ltb-true, ltb-false, cases_eq}
use Rattle.std.proofs.lemmas.List.{append-nil, append_assoc}
use Rattle.protocol.specs.States.{Row, added, join, Above, Ascending}
use Rattle.rows.specs.Batches.{all_joined}
use Rattle.rows.proofs.Totals.{table_same, weight_added}

abbrev pub both : Row → Row → Row
both x r = record { sequence = x.sequence; weights = added x.weights r.weights }

added_either : (v w : List ℕ) → added v w ≡ added w v
added_either v w = table_same 8 (λ b. get_or v b 0 + get_or w b 0) (λ b. get_or w b 0 + get_or v b 0) (λ k l. omega arith)

added_thrice : (u v w : List ℕ) → added (added u v) w ≡ added (added u w) v
added_thrice u v w =
    table_same 8 (λ b. get_or (added u v) b 0 + get_or w b 0) (λ b. get_or (added u w) b 0 + get_or v b 0)
    (λ k l. let e = weight_added u v k l in let f = weight_added u w k l in omega arith)

added_within : (u v w : List ℕ) → added u (added v w) ≡ added (added u v) w
added_within u v w =
    table_same 8 (λ b. get_or u b 0 + get_or (added v w) b 0) (λ b. get_or (added u v) b 0 + get_or w b 0)
    (λ k l. let e = weight_added v w k l in let f = weight_added u v k l in omega arith)

-- the three ways in which a row is joined at a row
join_before : (r y : Row) (ys : List Row) → r.sequence < y.sequence → join r (y ∷ ys) ≡ r ∷ y ∷ ys
join_before r y ys l = let e = lt-ltb r.sequence y.sequence l in rw e refl

join_after : (r y : Row) (ys : List Row) → y.sequence < r.sequence → join r (y ∷ ys) ≡ y ∷ join r ys
join_after r y ys l =
    let e = le-ltb r.sequence y.sequence (omega arith) in
    let f = lt-ltb y.sequence r.sequence l in
    rw (e, f) refl

join_at : (r y : Row) (ys : List Row) → y.sequence ≡ r.sequence → join r (y ∷ ys) ≡ both y r ∷ ys
join_at r y ys q =
    let e = le-ltb r.sequence y.sequence (omega arith) in
    let f = le-ltb y.sequence r.sequence (omega arith) in
    rw (e, f) refl

data Order (m n : ℕ) : Type 0 where
  less : m < n → Order m n
  same : m ≡ n → Order m n
  more : n < m → Order m n

order : (m n : ℕ) → Order m n
order m n = elim (cases_eq m n) [
  | inl e ↦ same e
  | inr d ↦ go (ltb m n) refl d
]
  where
    go : (t : Bool) → ltb m n ≡ t → (m ≡ n → ⊥) → Order m n
    go true e d = less (ltb-true m n e)
    go false e d = more (let f = ltb-false m n e in omega arith)

-- two rows joined in either order make one state
swap_front : (a b : Row) (zs : List Row) → join a zs ≡ a ∷ zs → join b zs ≡ b ∷ zs → join a (b ∷ zs) ≡ join b (a ∷ zs)
swap_front a b zs f g = elim (order a.sequence b.sequence) [
  | less l ↦ join_before a b zs l ∙ sym (join_after b a zs l ∙ ap (λ (xs : List Row). a ∷ xs) g)
  | more l ↦ join_after a b zs l ∙ ap (λ (xs : List Row). b ∷ xs) f ∙ sym (join_before b a zs l)
  | same e ↦ join_at a b zs (sym e) ∙ one e ∙ sym (join_at b a zs e)
]
  where
    one : a.sequence ≡ b.sequence → both b a ∷ zs ≡ both a b ∷ zs
    one e = ap (λ (s : ℕ). let r : Row = record { sequence = s; weights = added b.weights a.weights } in r ∷ zs) (sym e) ∙ ap (λ (w : List ℕ). let r : Row = record { sequence = a.sequence; weights = w } in r ∷ zs) (added_either b.weights a.weights)

-- (one of them comes before the first row, and the other does not)
swap_apart : (a b y : Row) (ys : List Row) → a.sequence < y.sequence → y.sequence ≤ b.sequence → join a (join b (y ∷ ys)) ≡ join b (join a (y ∷ ys))
swap_apart a b y ys l h = elim (order b.sequence y.sequence) [
  | less k ↦ absurd (omega arith)
  | more k ↦ ap (join a) (join_after b y ys k) ∙ join_before a y (join b ys) l ∙ sym (ap (join b) (join_before a y ys l) ∙ join_after b a (y ∷ ys) (omega arith) ∙ ap (λ (xs : List Row). a ∷ xs) (join_after b y ys k))
  | same e ↦ ap (join a) (join_at b y ys (sym e)) ∙ join_before a (both y b) ys l ∙ sym (ap (join b) (join_before a y ys l) ∙ join_after b a (y ∷ ys) (omega arith) ∙ ap (λ (xs : List Row). a ∷ xs) (join_at b y ys (sym e)))
]

swap_same : (a b y : Row) (ys : List Row) → y.sequence < a.sequence → y.sequence ≡ b.sequence → join a (join b (y ∷ ys)) ≡ join b (join a (y ∷ ys))
swap_same a b y ys l e =
    ap (join a) (join_at b y ys e) ∙ join_after a (both y b) ys l ∙ sym (ap (join b) (join_after a y ys l) ∙ join_at b y (join a ys) e)

pub join_swap : (a b : Row) (xs : List Row) → join a (join b xs) ≡ join b (join a xs)
join_swap a b [] = swap_front a b [] refl refl
join_swap a b (y ∷ ys) = elim (order a.sequence y.sequence) [
  | less l ↦ elim (order b.sequence y.sequence) [
    | less k ↦ ap (join a) (join_before b y ys k) ∙ swap_front a b (y ∷ ys) (join_before a y ys l) (join_before b y ys k) ∙ ap (join b) (sym (join_before a y ys l))
    | more k ↦ swap_apart a b y ys l (omega arith)
    | same e ↦ swap_apart a b y ys l (omega arith)
  ]
  | more l ↦ elim (order b.sequence y.sequence) [
    | less k ↦ sym (swap_apart b a y ys k (omega arith))
    | more k ↦ ap (join a) (join_after b y ys k) ∙ join_after a y (join b ys) l ∙ ap (λ (xs : List Row). y ∷ xs) (join_swap a b ys) ∙ sym (ap (join b) (join_after a y ys l) ∙ join_after b y (join a ys) k)
    | same e ↦ swap_same a b y ys l (sym e)
  ]
  | same q ↦ elim (order b.sequence y.sequence) [
    | less k ↦ sym (swap_apart b a y ys k (omega arith))
    | more k ↦ sym (swap_same b a y ys k (sym q))
    | same e ↦ ap (join a) (join_at b y ys (sym e)) ∙ join_at a (both y b) ys (sym q)
        ∙ ap (λ (w : List ℕ). let r : Row = record { sequence = y.sequence; weights = w } in r ∷ ys) (added_thrice y.weights b.weights a.weights)
        ∙ sym (ap (join b) (join_at a y ys (sym q)) ∙ join_at b (both y a) ys (sym e))
  ]
]

-- a row with the weights of two, joined, is both joined
pub join_both : (a b : Row) (xs : List Row) → b.sequence ≡ a.sequence → join (both b a) xs ≡ join a (join b xs)
join_both a b [] e = sym (join_at a b [] e)
join_both a b (y ∷ ys) e = elim (order b.sequence y.sequence) [
  | less l ↦ join_before (both b a) y ys l ∙ sym (join_at a b (y ∷ ys) e) ∙ ap (join a) (sym (join_before b y ys l))
  | more l ↦ join_after (both b a) y ys l ∙ ap (λ (xs : List Row). y ∷ xs) (join_both a b ys e) ∙ sym (join_after a y (join b ys) (omega arith)) ∙ ap (join a) (sym (join_after b y ys l))
  | same q ↦ join_at (both b a) y ys (sym q)
      ∙ ap (λ (w : List ℕ). let r : Row = record { sequence = y.sequence; weights = w } in r ∷ ys) (added_within y.weights b.weights a.weights)
      ∙ sym (join_at a (both y b) ys (omega arith)) ∙ ap (join a) (sym (join_at b y ys (sym q)))
]

pub all_swap : (r : Row) (qs xs : List Row) → all_joined qs (join r xs) ≡ join r (all_joined qs xs)
all_swap r [] xs = refl
all_swap r (q ∷ qs) xs = ap (all_joined qs) (join_swap q r xs) ∙ all_swap r qs (join q xs)

-- a row joined to the batch is joined to the state
pub all_join : (r : Row) (qs xs : List Row) → all_joined (join r qs) xs ≡ join r (all_joined qs xs)
all_join r [] xs = refl
all_join r (q ∷ qs) xs = elim (order r.sequence q.sequence) [
  | less l ↦ ap (λ (rs : List Row). all_joined rs xs) (join_before r q qs l) ∙ all_swap r (q ∷ qs) xs
  | more l ↦ ap (λ (rs : List Row). all_joined rs xs) (join_after r q qs l) ∙ all_join r qs (join q xs)
  | same e ↦ ap (λ (rs : List Row). all_joined rs xs) (join_at r q qs (sym e)) ∙ ap (all_joined qs) (join_both r q xs (sym e)) ∙ all_swap r qs (join q xs)
]

pub all_append : (ps qs xs : List Row) → all_joined (ps ++ qs) xs ≡ all_joined qs (all_joined ps xs)
all_append [] qs xs = refl
all_append (p ∷ ps) qs xs = all_append ps qs (join p xs)

-- a row that comes before another is joined before it
join_front : (q b : Row) (xs ys : List Row) → q.sequence < b.sequence → join q (xs ++ b ∷ ys) ≡ join q xs ++ b ∷ ys
join_front q b [] ys l = join_before q b ys l
join_front q b (x ∷ xs) ys l = elim (order q.sequence x.sequence) [
  | less h ↦ join_before q x (xs ++ b ∷ ys) h ∙ ap (λ (zs : List Row). zs ++ b ∷ ys) (sym (join_before q x xs h))
  | more h ↦ join_after q x (xs ++ b ∷ ys) h ∙ ap (λ (zs : List Row). x ∷ zs) (join_front q b xs ys l) ∙ ap (λ (zs : List Row). zs ++ b ∷ ys) (sym (join_after q x xs h))
  | same e ↦ join_at q x (xs ++ b ∷ ys) (sym e) ∙ ap (λ (zs : List Row). zs ++ b ∷ ys) (sym (join_at q x xs (sym e)))
]

-- in an ascending list each row comes before the last
ahead : (x : ℕ) (qs : List Row) (b : Row) → Above x (qs ++ b ∷ []) → x < b.sequence
ahead x [] b h = h.0
ahead x (q ∷ qs) b h = let k = ahead q.sequence qs b h.1 in let m = h.0 in omega arith

later_rows : (x : ℕ) (qs : List Row) → Above x qs → Ascending qs
later_rows x [] h = tt
later_rows x (q ∷ qs) h = h.1

all_front : (b : Row) (qs xs ys : List Row) → Ascending (qs ++ b ∷ []) → all_joined qs (xs ++ b ∷ ys) ≡ all_joined qs xs ++ b ∷ ys
all_front b [] xs ys h = refl
all_front b (q ∷ qs) xs ys h =
    ap (all_joined qs) (join_front q b xs ys (ahead q.sequence qs b h))
    ∙ all_front b qs (join q xs) ys (later_rows q.sequence (qs ++ b ∷ []) h)

-- the last row of the batch put in, before the others are
pub last_put : (qs xs ys : List Row) (b : Row) → Ascending (qs ++ b ∷ []) → join b (xs ++ ys) ≡ xs ++ b ∷ ys → all_joined (qs ++ b ∷ []) (xs ++ ys) ≡ all_joined qs xs ++ b ∷ ys
last_put qs xs ys b h e =
    all_append qs (b ∷ []) (xs ++ ys) ∙ sym (all_swap b qs (xs ++ ys)) ∙ ap (all_joined qs) e ∙ all_front b qs xs ys h

-- parts of an ascending list
above_part : (x : ℕ) (xs ys : List Row) → Above x (xs ++ ys) → Above x xs
above_part x [] ys h = tt
above_part x (y ∷ xs) ys h = (h.0, above_part y.sequence xs ys h.1)

pub first_part : (xs ys : List Row) → Ascending (xs ++ ys) → Ascending xs
first_part [] ys h = tt
first_part (x ∷ xs) ys h = above_part x.sequence xs ys h

-- a batch that comes after all of the run stands as it is to
end_join : (r : Row) (xs ys : List Row) → Ascending (xs ++ r ∷ ys) → join r xs ≡ xs ++ r ∷ []
end_join r [] ys h = refl
end_join r (x ∷ xs) ys h =
    join_after r x xs (first_later x.sequence xs h) ∙ ap (λ (zs : List Row). x ∷ zs) (end_join r xs ys (later_rows x.sequence (xs ++ r ∷ ys) h))
  where
    first_later : (s : ℕ) (zs : List Row) → Above s (zs ++ r ∷ ys) → s < r.sequence
    first_later s [] k = k.0
    first_later s (z ∷ zs) k = let i = first_later z.sequence zs k.1 in let j = k.0 in omega arith

pub all_end : (qs xs : List Row) → Ascending (xs ++ qs) → all_joined qs xs ≡ xs ++ qs
all_end [] xs h = sym (append-nil xs)
all_end (q ∷ qs) xs h =
    ap (all_joined qs) (end_join q xs qs h) ∙ all_end qs (xs ++ q ∷ []) (subst Ascending (sym (append_assoc xs (q ∷ []) qs)) h) ∙ append_assoc xs (q ∷ []) qs
