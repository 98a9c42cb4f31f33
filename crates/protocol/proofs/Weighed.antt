-- The weighted sum of a state against any function of the cards, and what each kind of line makes of it.
use Rattle.std.proofs.Common.{◌≡◌, ℕ, zero, suc, ◌+◌, ◌*◌, ◌<◌, ◌≤◌, Bool, true, false, cond, not, eqb, ltb, ◌⊎◌, List, [], ◌∷◌, length, get_or, sum_by, filter, sym, refl, ap, ◌∙◌, inl, inr, le_refl, add-mul, zero-add, zero-mul, mul-one, mul-add, arith, ltb-false, eq-eqb, ne_eqb}
use mathlib.Core.Path.{fun_ext}
use Rattle.std.specs.List.{AllByRecursion}
use Rattle.std.proofs.ByRecursion.{kept_by_passes}
use Rattle.std.proofs.lemmas.List.Sums.{sum_by-cons}
use Rattle.std.proofs.lemmas.Bool.{cases_eq, cases_lt}
use Rattle.cards.specs.Rows.{unpacked}
use Rattle.cards.proofs.Moves.{unpack_pack, unpack_dealt}
use Rattle.protocol.specs.Machine.{Protocol, LawfulProtocol, inputs, laid, Mixing, moved, marks_at, sum_below}
use Rattle.protocol.specs.States.{Row, weight, cards_of, added, join, unit_row, started, start_state, row_after, joined_after, mixed_by, mixed, before, shows, is_shown, least_shown, Child, split, children, total_of}
use Rattle.protocol.proofs.Sums.{sum_by_all, sum_by_add, sum_by_sum_below, sum_below_mul, cond_lt, cond_ge}
use Rattle.protocol.proofs.Dealt.{Inside, dealt_carried, dealt_laid, table_at}
use Rattle.protocol.proofs.Same.{same_true, same_refl}

abbrev pub weighed : ℕ → ℕ → (List ℕ → ℕ) → List Row → ℕ
weighed n b g rows = sum_by (λ r. weight b r * g (cards_of n r)) rows

pub weighed_cons : (n b : ℕ) (g : List ℕ → ℕ) (r : Row) (rows : List Row) → weighed n b g (r ∷ rows) ≡ weight b r * g (cards_of n r) + weighed n b g rows
weighed_cons n b g r rows = sum_by-cons (λ r. weight b r * g (cards_of n r)) r rows

pub weight_added : (v w : List ℕ) (b : ℕ) → b < 8 → get_or (added v w) b 0 ≡ get_or v b 0 + get_or w b 0
weight_added v w b h = table_at (λ c. get_or v c 0 + get_or w c 0) 8 b h

pub weighed_join : (n b : ℕ) (g : List ℕ → ℕ) → b < 8 → (r : Row) (rows : List Row) → weighed n b g (join r rows) ≡ weight b r * g (cards_of n r) + weighed n b g rows
weighed_join n b g few r [] = weighed_cons n b g r []
weighed_join n b g few r (x ∷ xs) = go (ltb r.sequence x.sequence) (ltb x.sequence r.sequence) refl refl (weighed_join n b g few r xs)
  where
    merged : Row
    merged = record { sequence = x.sequence; weights = added x.weights r.weights }

    go : (t u : Bool) → ltb r.sequence x.sequence ≡ t → ltb x.sequence r.sequence ≡ u → weighed n b g (join r xs) ≡ weight b r * g (cards_of n r) + weighed n b g xs → weighed n b g (cond t (r ∷ x ∷ xs) (cond u (x ∷ join r xs) (merged ∷ xs))) ≡ weight b r * g (cards_of n r) + weighed n b g (x ∷ xs)
    go true u e f ih = weighed_cons n b g r (x ∷ xs)
    go false true e f ih =
        let a = weighed_cons n b g x (join r xs) in
        let c = weighed_cons n b g x xs in
        omega arith
    go false false e f ih =
        let q : r.sequence ≡ x.sequence =
        (let k = ltb-false r.sequence x.sequence e in let l = ltb-false x.sequence r.sequence f in omega arith) in
        let same-cards : g (cards_of n r) ≡ g (cards_of n x) = ap (λ s. g (unpacked n s)) q in
        let a = weighed_cons n b g merged xs in
        let c = weighed_cons n b g x xs in
        let w = weight_added x.weights r.weights b few in
        let m : weight b merged * g (cards_of n x) ≡ weight b x * g (cards_of n x) + weight b r * g (cards_of n x) =
        ap (λ k. k * g (cards_of n x)) w ∙ add-mul (weight b x) (weight b r) (g (cards_of n x)) in
        rw same-cards (omega arith)

-- a state after one draw of a mixing, joined to what is there
weighed_joined_after : (n b : ℕ) (g : List ℕ → ℕ) (m : Mixing) (d : ℕ) → b < 8 → n ≤ 12 → Inside n (m.sends d) → (rows state : List Row) → weighed n b g (joined_after n m d rows state) ≡ weighed n b (λ a. g (moved m d a)) rows + weighed n b g state
weighed_joined_after n b g m d few cards ins [] state = sym (zero-add (weighed n b g state))
weighed_joined_after n b g m d few cards ins (r ∷ rs) state =
    let ih = weighed_joined_after n b g m d few cards ins rs (join (row_after n m d r) state) in
    let j = weighed_join n b g few (row_after n m d r) state in
    let c = weighed_cons n b (λ a. g (moved m d a)) r rs in
    let e : g (cards_of n (row_after n m d r)) ≡ g (moved m d (cards_of n r)) =
    ap g (unpack_pack n (moved m d (cards_of n r)) cards
    (dealt_carried n (m.sends d) (cards_of n r) ins (unpack_dealt n r.sequence cards))) in
    let f : weight b r * g (cards_of n (row_after n m d r)) ≡ weight b r * g (moved m d (cards_of n r)) = ap (λ k. weight b r * k) e in
    omega arith

-- every draw of a mixing keeps the slots of a row of n cards
abbrev pub Inward : ℕ → Mixing → Type 0
Inward n m = (d : ℕ) → Inside n (m.sends d)

pub weighed_mixed : (n b : ℕ) (g : List ℕ → ℕ) (m : Mixing) → b < 8 → n ≤ 12 → Inward n m → (rows : List Row) → weighed n b g (mixed n m rows) ≡ sum_below m.total (λ d. weighed n b (λ a. g (moved m d a)) rows)
unfolding sum_below
weighed_mixed n b g m few cards ins rows = go m.total
  where
    go : (k : ℕ) → weighed n b g (mixed_by n m rows k) ≡ sum_below k (λ d. weighed n b (λ a. g (moved m d a)) rows)
    go zero = refl
    go (suc d) =
        let ih = go d in
        let j = weighed_joined_after n b g m d few cards (ins d) rows (mixed_by n m rows d) in
        omega arith

pub weighed_started : (p : Protocol) (b : ℕ) (g : List ℕ → ℕ) → LawfulProtocol p → b < 8 → (k : ℕ) → weighed p.script.cards b g (started p k) ≡ cond (ltb b k) (g (laid p b)) 0
weighed_started p b g ok few zero = sym (cond_ge b 0 (g (laid p b)) 0 (omega arith))
weighed_started p b g ok few (suc k) =
    weighed_join p.script.cards b g few (unit_row p k) (started p k) ∙ step (weighed_started p b g ok few k)
  where
    n : ℕ
    n = p.script.cards

    unit : weight b (unit_row p k) ≡ cond (eqb b k) 1 0
    unit = table_at (λ c. cond (eqb c k) 1 0) 8 b few

    cards : cards_of n (unit_row p k) ≡ laid p k
    cards = unpack_pack n (laid p k) ok.script.few_cards (dealt_laid p k ok)

    step : weighed n b g (started p k) ≡ cond (ltb b k) (g (laid p b)) 0 → weight b (unit_row p k) * g (cards_of n (unit_row p k)) + weighed n b g (started p k) ≡ cond (ltb b (suc k)) (g (laid p b)) 0
    step ih =
        elim (cases_eq b k) [
          | inl e ↦
              let u : weight b (unit_row p k) ≡ 1 = unit ∙ ap (λ t. cond t 1 0) (eq-eqb b k e) in
              let c : g (cards_of n (unit_row p k)) ≡ g (laid p b) = ap g cards ∙ ap (λ i. g (laid p i)) (sym e) in
              let f = cond_ge b k (g (laid p b)) 0 (omega arith) in
              let l = cond_lt b (suc k) (g (laid p b)) 0 (omega arith) in
              rw (u, c) (omega arith)
          | inr ne ↦
              let u : weight b (unit_row p k) ≡ 0 = unit ∙ ap (λ t. cond t 1 0) (ne_eqb b k ne) in
              elim (cases_lt b k) [
                | inl l ↦
                    let f = cond_lt b k (g (laid p b)) 0 l in
                    let q = cond_lt b (suc k) (g (laid p b)) 0 (omega arith) in
                    rw (u, zero-mul) (omega arith)
                | inr l ↦
                    let f = cond_ge b k (g (laid p b)) 0 l in
                    let q = cond_ge b (suc k) (g (laid p b)) 0 (omega arith) in
                    rw (u, zero-mul) (omega arith)
              ]
        ]

pub weighed_start : (p : Protocol) (b : ℕ) (g : List ℕ → ℕ) → LawfulProtocol p → b < inputs p → b < 8 → weighed p.script.cards b g (start_state p) ≡ g (laid p b)
weighed_start p b g ok h few = weighed_started p b g ok few (inputs p) ∙ cond_lt b (inputs p) (g (laid p b)) 0 h

-- a turn

weighed_parts : (n b : ℕ) (g : List ℕ → ℕ) (test : Row → Bool) (rows : List Row) → weighed n b g rows ≡ weighed n b g (filter test rows) + weighed n b g (filter (λ r. not (test r)) rows)
weighed_parts n b g test [] = refl
weighed_parts n b g test (r ∷ rs) = go (test r) refl (weighed_parts n b g test rs)
  where
    go : (t : Bool) → test r ≡ t → weighed n b g rs ≡ weighed n b g (filter test rs) + weighed n b g (filter (λ r. not (test r)) rs) → weighed n b g (r ∷ rs) ≡ weighed n b g (cond t (r ∷ filter test rs) (filter test rs)) + weighed n b g (cond (not t) (r ∷ filter (λ r. not (test r)) rs) (filter (λ r. not (test r)) rs))
    go true e ih =
        let a = weighed_cons n b g r rs in
        let c = weighed_cons n b g r (filter test rs) in
        omega arith
    go false e ih =
        let a = weighed_cons n b g r rs in
        let c = weighed_cons n b g r (filter (λ r. not (test r)) rs) in
        omega arith

pub length_parts : {X : Type 0} (test : X → Bool) (xs : List X) → length (filter test xs) + length (filter (λ r. not (test r)) xs) ≡ length xs
length_parts test [] = refl
length_parts test (x ∷ xs) = go (test x) (length_parts test xs)
  where
    go : (t : Bool) → length (filter test xs) + length (filter (λ r. not (test r)) xs) ≡ length xs → length (cond t (x ∷ filter test xs) (filter test xs)) + length (cond (not t) (x ∷ filter (λ r. not (test r)) xs) (filter (λ r. not (test r)) xs)) ≡ suc (length xs)
    go true ih = omega arith
    go false ih = omega arith

kept_first : {X : Type 0} (test : X → Bool) (x : X) (xs : List X) → test x ≡ true → 1 ≤ length (filter test (x ∷ xs))
kept_first test x xs e = rw e (omega arith)

kept_later : {X : Type 0} (test : X → Bool) (x : X) (xs : List X) → 1 ≤ length (filter test xs) → 1 ≤ length (filter test (x ∷ xs))
kept_later test x xs h =
    elim (test x) as (λ t. 1 ≤ length (cond t (x ∷ filter test xs) (filter test xs))) [
      | true ↦ omega arith
      | false ↦ h
    ]

least_kept : (n : ℕ) (places marks : List ℕ) (rs : List Row) → (least_shown n places marks rs ≡ marks) ⊎ (1 ≤ length (filter (is_shown n places (least_shown n places marks rs)) rs))
least_kept n places marks [] = inl refl
least_kept n places marks (r ∷ rs) = go (λ ms. least_kept n places ms rs) (before (shows n places r) marks)
  where
    ended : (least : List ℕ) → least ≡ shows n places r → 1 ≤ length (filter (is_shown n places least) (r ∷ rs))
    ended least e = kept_first (is_shown n places least) r rs (rw e (same_refl (shows n places r)))

    go : ((ms : List ℕ) → (least_shown n places ms rs ≡ ms) ⊎ (1 ≤ length (filter (is_shown n places (least_shown n places ms rs)) rs))) → (t : Bool) → (least_shown n places (cond t (shows n places r) marks) rs ≡ marks) ⊎ (1 ≤ length (filter (is_shown n places (least_shown n places (cond t (shows n places r) marks) rs)) (r ∷ rs)))
    go ih true =
        elim (ih (shows n places r)) [
          | inl e ↦ inr (ended (least_shown n places (shows n places r) rs) e)
          | inr h ↦ inr (kept_later (is_shown n places (least_shown n places (shows n places r) rs)) r rs h)
        ]
    go ih false =
        elim (ih marks) [
          | inl e ↦ inl e
          | inr h ↦ inr (kept_later (is_shown n places (least_shown n places marks rs)) r rs h)
        ]

pub some_kept : (n : ℕ) (places : List ℕ) (r : Row) (rs : List Row) → 1 ≤ length (filter (is_shown n places (least_shown n places (shows n places r) rs)) (r ∷ rs))
some_kept n places r rs =
    elim (least_kept n places (shows n places r) rs) [
      | inl e ↦ kept_first (is_shown n places (least_shown n places (shows n places r) rs)) r rs (rw e (same_refl (shows n places r)))
      | inr h ↦ kept_later (is_shown n places (least_shown n places (shows n places r) rs)) r rs h
    ]

-- the rows that are left after the first child are fewer
pub fewer_left : (n : ℕ) (places : List ℕ) (r : Row) (rs : List Row) → length (filter (λ x. not (is_shown n places (least_shown n places (shows n places r) rs) x)) (r ∷ rs)) ≤ length rs
fewer_left n places r rs =
    let e = length_parts (is_shown n places (least_shown n places (shows n places r) rs)) (r ∷ rs) in
    let k = some_kept n places r rs in
    omega arith

-- The sum over the rows of a turn is the sum over the rows of its children, where a row shows its child's marks.
pub weighed_children : (n b : ℕ) (places : List ℕ) (g : List ℕ → List ℕ → ℕ) (rows : List Row) → weighed n b (λ a. g (marks_at places a) a) rows ≡ sum_by (λ c. weighed n b (g c.marks) c.rows) (children n places rows)
weighed_children n b places g rows = go (length rows) rows (le_refl (length rows))
  where
    f : List ℕ → ℕ
    f a = g (marks_at places a) a

    shown : (marks : List ℕ) (rs : List Row) → AllByRecursion (λ r. is_shown n places marks r ≡ true) rs → AllByRecursion (λ r. weight b r * f (cards_of n r) ≡ weight b r * g marks (cards_of n r)) rs
    shown marks [] h = tt
    shown marks (r ∷ rs) h =
        (ap (λ ms. weight b r * g ms (cards_of n r)) (same_true (shows n places r) marks h.0), shown marks rs h.1)

    first : (marks : List ℕ) (rs : List Row) → weighed n b f (filter (is_shown n places marks) rs) ≡ weighed n b (g marks) (filter (is_shown n places marks) rs)
    first marks rs =
        sum_by_all (λ r. weight b r * f (cards_of n r)) (λ r. weight b r * g marks (cards_of n r))
        (filter (is_shown n places marks) rs)
        (shown marks (filter (is_shown n places marks) rs) (kept_by_passes (is_shown n places marks) rs))

    h : Child → ℕ
    h c = weighed n b (g c.marks) c.rows

    go : (k : ℕ) (rs : List Row) → length rs ≤ k → weighed n b f rs ≡ sum_by h (split k n places rs)
    go zero [] l = refl
    go zero (r ∷ rs) l = absurd (omega arith)
    go (suc k) [] l = refl
    go (suc k) (r ∷ rs) l =
        let least : List ℕ = least_shown n places (shows n places r) rs in
        let yes : List Row = filter (is_shown n places least) (r ∷ rs) in
        let left : List Row = filter (λ x. not (is_shown n places least x)) (r ∷ rs) in
        let child : Child = record { marks = least; rows = yes } in
        let parts : weighed n b f (r ∷ rs) ≡ weighed n b f yes + weighed n b f left = weighed_parts n b f (is_shown n places least) (r ∷ rs) in
        let e : weighed n b f yes ≡ weighed n b (g least) yes = first least (r ∷ rs) in
        let small : length left ≤ length rs = fewer_left n places r rs in
        let ih : weighed n b f left ≡ sum_by h (split k n places left) = go k left (omega arith) in
        parts ∙ ap (λ v. v + weighed n b f left) e ∙ ap (λ v. weighed n b (g least) yes + v) ih
        ∙ sym (sum_by-cons h child (split k n places left))

-- a node's total is its weighted sum against 1
pub weighed_one : (n b : ℕ) (rows : List Row) → weighed n b (λ a. 1) rows ≡ total_of b rows
weighed_one n b rows = ap (λ f. sum_by f rows) (fun_ext (λ r. mul-one (weight b r)))

-- two functions that agree
pub weighed_ext : (n b : ℕ) (f g : List ℕ → ℕ) → ((a : List ℕ) → f a ≡ g a) → (rows : List Row) → weighed n b f rows ≡ weighed n b g rows
weighed_ext n b f g h rows = ap (λ k. weighed n b k rows) (fun_ext h)

pub weighed_add : (n b : ℕ) (f g : List ℕ → ℕ) (rows : List Row) → weighed n b (λ a. f a + g a) rows ≡ weighed n b f rows + weighed n b g rows
weighed_add n b f g rows =
    ap (λ k. sum_by k rows) (fun_ext (λ r. mul-add (weight b r) (f (cards_of n r)) (g (cards_of n r))))
    ∙ sum_by_add (λ r. weight b r * f (cards_of n r)) (λ r. weight b r * g (cards_of n r)) rows

pub weighed_const : (n b c : ℕ) (rows : List Row) → weighed n b (λ a. c) rows ≡ total_of b rows * c
weighed_const n b c [] = sym (zero-mul c)
weighed_const n b c (r ∷ rs) =
    let ih = weighed_const n b c rs in
    let e = weighed_cons n b (λ a. c) r rs in
    let f = ap (λ k. k * c) (sum_by-cons (weight b) r rs) ∙ add-mul (weight b r) (total_of b rs) c in
    omega arith

pub weighed_sum_below : (n b k : ℕ) (f : ℕ → List ℕ → ℕ) (rows : List Row) → weighed n b (λ a. sum_below k (λ d. f d a)) rows ≡ sum_below k (λ d. weighed n b (f d) rows)
weighed_sum_below n b k f rows =
    ap (λ h. sum_by h rows) (fun_ext (λ r. sum_below_mul k (weight b r) (λ d. f d (cards_of n r))))
    ∙ sum_by_sum_below k (λ r d. weight b r * f d (cards_of n r)) rows
