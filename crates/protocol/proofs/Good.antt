-- The states of a tree ascend, have no row of zero weights, and know their rows of cards by number.
use Rattle.std.proofs.Common.{◌≡◌, ℕ, zero, suc, ◌+◌, ◌<◌, ◌≤◌, Bool, true, false, cond, not, eqb, ltb, List, [], ◌∷◌, filter, refl, ap, ◌∙◌, zero-add, arith, ltb-false, ltb-true, eq-eqb, ne_eqb}
use Rattle.std.specs.List.{AllByRecursion}
use Rattle.std.proofs.ByRecursion.{all_kept_by}
use Rattle.std.proofs.lemmas.List.Sums.{sum_by-cons}
use Rattle.cards.specs.Rows.{packed}
use Rattle.cards.proofs.Moves.{unpack_pack, unpack_dealt}
use Rattle.protocol.specs.Machine.{Protocol, LawfulProtocol, inputs, laid, Mixing, moved}
use Rattle.protocol.specs.States.{Row, weight, weight_of, cards_of, added, join, unit_row, started, start_state, row_after, joined_after, mixed_by, mixed, is_shown, shows, least_shown, split, Above, Ascending, Weighted, State}
use Rattle.protocol.proofs.Dealt.{Inside, dealt_carried, dealt_laid, table_at}
use Rattle.protocol.proofs.Weighed.{Inward, weight_added}

-- a row's sequence is the number of its cards
abbrev pub Packed : ℕ → Row → Type 0
Packed n r = packed n (cards_of n r) ≡ r.sequence

pub record Good (n : ℕ) (rows : List Row) : Type 0 where
  pub state : State rows
  pub numbered : AllByRecursion (Packed n) rows

above_down : (x y : ℕ) (rows : List Row) → y ≤ x → Above x rows → Above y rows
above_down x y [] h a = tt
above_down x y (r ∷ rs) h a = (let k = a.0 in omega arith, a.1)

above_kept : (x : ℕ) (test : Row → Bool) (rows : List Row) → Above x rows → Above x (filter test rows)
above_kept x test [] a = tt
above_kept x test (r ∷ rs) a = go (test r) (above_kept r.sequence test rs a.1)
  where
    go : (t : Bool) → Above r.sequence (filter test rs) → Above x (cond t (r ∷ filter test rs) (filter test rs))
    go true ih = (a.0, ih)
    go false ih = above_down r.sequence x (filter test rs) (let k = a.0 in omega arith) ih

pub ascending_above : (x : ℕ) (rows : List Row) → Above x rows → Ascending rows
ascending_above x [] a = tt
ascending_above x (r ∷ rs) a = a.1

ascending_kept : (test : Row → Bool) (rows : List Row) → Ascending rows → Ascending (filter test rows)
ascending_kept test [] a = tt
ascending_kept test (r ∷ rs) a = go (test r)
  where
    go : (t : Bool) → Ascending (cond t (r ∷ filter test rs) (filter test rs))
    go true = above_kept r.sequence test rs a
    go false = ascending_above r.sequence (filter test rs) (above_kept r.sequence test rs a)

above_join : (x : ℕ) (r : Row) (rows : List Row) → x < r.sequence → Above x rows → Above x (join r rows)
above_join x r [] h a = (h, tt)
above_join x r (y ∷ ys) h a = go (ltb r.sequence y.sequence) (ltb y.sequence r.sequence) refl refl (above_join y.sequence r ys)
  where
    go : (t u : Bool) → ltb r.sequence y.sequence ≡ t → ltb y.sequence r.sequence ≡ u → (y.sequence < r.sequence → Above y.sequence ys → Above y.sequence (join r ys)) → Above x (cond t (r ∷ y ∷ ys) (cond u (y ∷ join r ys) (record { sequence = y.sequence; weights = added y.weights r.weights } ∷ ys)))
    go true u e f ih = (h, (ltb-true r.sequence y.sequence e, a.1))
    go false true e f ih = (a.0, ih (ltb-true y.sequence r.sequence f) a.1)
    go false false e f ih = (a.0, a.1)

ascending_join : (r : Row) (rows : List Row) → Ascending rows → Ascending (join r rows)
ascending_join r [] a = tt
ascending_join r (y ∷ ys) a = go (ltb r.sequence y.sequence) (ltb y.sequence r.sequence) refl refl
  where
    go : (t u : Bool) → ltb r.sequence y.sequence ≡ t → ltb y.sequence r.sequence ≡ u → Ascending (cond t (r ∷ y ∷ ys) (cond u (y ∷ join r ys) (record { sequence = y.sequence; weights = added y.weights r.weights } ∷ ys)))
    go true u e f = (ltb-true r.sequence y.sequence e, a)
    go false true e f = above_join y.sequence r ys (ltb-true y.sequence r.sequence f) a
    go false false e f = a

-- what holds of the rows and of a row, and of two rows of one sequence joined, holds after a join
all_join : (P : Row → Type 0) → ((x r : Row) → x.sequence ≡ r.sequence → P x → P r → P (record { sequence = x.sequence; weights = added x.weights r.weights })) → (r : Row) (rows : List Row) → P r → AllByRecursion P rows → AllByRecursion P (join r rows)
all_join P merge r [] h all = (h, tt)
all_join P merge r (y ∷ ys) h all = go (ltb r.sequence y.sequence) (ltb y.sequence r.sequence) refl refl (all_join P merge r ys h all.1)
  where
    go : (t u : Bool) → ltb r.sequence y.sequence ≡ t → ltb y.sequence r.sequence ≡ u → AllByRecursion P (join r ys) → AllByRecursion P (cond t (r ∷ y ∷ ys) (cond u (y ∷ join r ys) (record { sequence = y.sequence; weights = added y.weights r.weights } ∷ ys)))
    go true u e f ih = (h, all)
    go false true e f ih = (all.0, ih)
    go false false e f ih =
        (merge y r (let k = ltb-false r.sequence y.sequence e in let l = ltb-false y.sequence r.sequence f in omega arith) all.0 h, all.1)

merge_weighted : (x r : Row) → x.sequence ≡ r.sequence → Weighted x → Weighted r → Weighted (record { sequence = x.sequence; weights = added x.weights r.weights })
merge_weighted x r e w v =
    record {
      eight = refl;
      some = (
        w.some.0,
        w.some.1,
        (let a = weight_added x.weights r.weights w.some.0 w.some.1 in let k = w.some.2 in omega arith),
      );
    }

pub good_join : (n : ℕ) (r : Row) (rows : List Row) → Weighted r → Packed n r → Good n rows → Good n (join r rows)
good_join n r rows w q g =
    record {
      state =
          record {
            ascending = ascending_join r rows g.state.ascending;
            weighted = all_join Weighted merge_weighted r rows w g.state.weighted;
          };
      numbered = all_join (Packed n) (λ x r e a b. a) r rows q g.numbered;
    }

good_none : (n : ℕ) → Good n []
good_none n = record { state = record { ascending = tt; weighted = tt }; numbered = tt }

pub good_start : (p : Protocol) → LawfulProtocol p → inputs p ≤ 8 → Good p.script.cards (start_state p)
good_start p ok few = go (inputs p) few
  where
    n : ℕ
    n = p.script.cards

    go : (k : ℕ) → k ≤ 8 → Good n (started p k)
    go zero h = good_none n
    go (suc k) h =
        good_join n (unit_row p k) (started p k)
        (record {
          eight = refl;
          some = (
            k,
            h,
            (let e = table_at (λ c. cond (eqb c k) 1 0) 8 k h ∙ ap (λ t. cond t 1 0) (eq-eqb k k refl) in omega arith),
          );
        })
        (ap (packed n) (unpack_pack n (laid p k) ok.script.few_cards (dealt_laid p k ok)))
        (go k (omega arith))

good_joined : (n : ℕ) (m : Mixing) (d : ℕ) → n ≤ 12 → Inside n (m.sends d) → (rows state : List Row) → AllByRecursion Weighted rows → Good n state → Good n (joined_after n m d rows state)
good_joined n m d few ins [] state w g = g
good_joined n m d few ins (r ∷ rs) state w g =
    good_joined n m d few ins rs (join (row_after n m d r) state) w.1
    (good_join n (row_after n m d r) state (record { eight = w.0.eight; some = w.0.some })
    (ap (packed n) (unpack_pack n (moved m d (cards_of n r)) few
    (dealt_carried n (m.sends d) (cards_of n r) ins (unpack_dealt n r.sequence few))))
    g)

pub good_mixed_from : (n : ℕ) (m : Mixing) → n ≤ 12 → Inward n m → (rows : List Row) → AllByRecursion Weighted rows → Good n (mixed n m rows)
good_mixed_from n m few ins rows w = go m.total
  where
    go : (k : ℕ) → Good n (mixed_by n m rows k)
    go zero = good_none n
    go (suc d) = good_joined n m d few (ins d) rows (mixed_by n m rows d) w (go d)

pub good_mixed : (n : ℕ) (m : Mixing) → n ≤ 12 → Inward n m → (rows : List Row) → Good n rows → Good n (mixed n m rows)
good_mixed n m few ins rows g = good_mixed_from n m few ins rows g.state.weighted

state_kept : (test : Row → Bool) (rows : List Row) → State rows → State (filter test rows)
state_kept test rows s =
    record {
      ascending = ascending_kept test rows s.ascending;
      weighted = all_kept_by test Weighted rows s.weighted;
    }

-- what a filter keeps, a turn keeps in its children
children_keep : (n : ℕ) (places : List ℕ) (P : List Row → Type 0) → ((test : Row → Bool) (rows : List Row) → P rows → P (filter test rows)) → (k : ℕ) (rows : List Row) → P rows → AllByRecursion (λ c. P c.rows) (split k n places rows)
children_keep n places P keep zero rows h = tt
children_keep n places P keep (suc k) [] h = tt
children_keep n places P keep (suc k) (r ∷ rs) h = (
  keep (is_shown n places (least_shown n places (shows n places r) rs)) (r ∷ rs) h,
  children_keep n places P keep k
      (filter (λ x. not (is_shown n places (least_shown n places (shows n places r) rs) x)) (r ∷ rs))
      (keep (λ x. not (is_shown n places (least_shown n places (shows n places r) rs) x)) (r ∷ rs) h),
)

pub states_children : (n : ℕ) (places : List ℕ) (k : ℕ) (rows : List Row) → State rows → AllByRecursion (λ c. State c.rows) (split k n places rows)
states_children n places k rows s = children_keep n places State state_kept k rows s

pub good_children : (n : ℕ) (places : List ℕ) (k : ℕ) (rows : List Row) → Good n rows → AllByRecursion (λ c. Good n c.rows) (split k n places rows)
good_children n places k rows g =
    children_keep n places (Good n)
    (λ test rows g. record { state = state_kept test rows g.state; numbered = all_kept_by test (Packed n) rows g.numbered })
    k rows g

-- in an ascending state the weight of a row's sequence is the row's

pub weight_above : (b x : ℕ) (rows : List Row) → Above x rows → (y : ℕ) → y ≤ x → weight_of b y rows ≡ 0
weight_above b x [] a y h = refl
weight_above b x (r ∷ rs) a y h =
    let k = a.0 in
    sum_by-cons (λ r. cond (eqb r.sequence y) (weight b r) 0) r rs
    ∙ ap (λ t. cond t (weight b r) 0 + weight_of b y rs) (ne_eqb r.sequence y (λ e. omega arith))
    ∙ zero-add (weight_of b y rs)
    ∙ weight_above b r.sequence rs a.1 y (omega arith)

pub weight_first : (b : ℕ) (r : Row) (rs : List Row) → Above r.sequence rs → weight_of b r.sequence (r ∷ rs) ≡ weight b r
weight_first b r rs a =
    let z = weight_above b r.sequence rs a r.sequence (omega arith) in
    let c = sum_by-cons (λ x. cond (eqb x.sequence r.sequence) (weight b x) 0) r rs in
    let e : cond (eqb r.sequence r.sequence) (weight b r) 0 ≡ weight b r = ap (λ t. cond t (weight b r) 0) (eq-eqb r.sequence r.sequence refl) in
    omega arith

pub weight_rows : (b : ℕ) (rows : List Row) → Ascending rows → AllByRecursion (λ r. weight_of b r.sequence rows ≡ weight b r) rows
weight_rows b [] a = tt
weight_rows b (x ∷ xs) a =
    (weight_first b x xs a, later x.sequence xs a (weight_rows b xs (ascending_above x.sequence xs a)) (omega arith))
  where
    skip : (r : Row) → x.sequence < r.sequence → weight_of b r.sequence (x ∷ xs) ≡ weight_of b r.sequence xs
    skip r h =
        sum_by-cons (λ y. cond (eqb y.sequence r.sequence) (weight b y) 0) x xs
        ∙ ap (λ t. cond t (weight b x) 0 + weight_of b r.sequence xs) (ne_eqb x.sequence r.sequence (λ e. omega arith))
        ∙ zero-add (weight_of b r.sequence xs)

    later : (y : ℕ) (rs : List Row) → Above y rs → AllByRecursion (λ r. weight_of b r.sequence xs ≡ weight b r) rs → x.sequence ≤ y → AllByRecursion (λ r. weight_of b r.sequence (x ∷ xs) ≡ weight b r) rs
    later y [] u h l = tt
    later y (r ∷ rs) u h l =
        let k = u.0 in
        (skip r (omega arith) ∙ h.0, later r.sequence rs u.1 h.1 (omega arith))
