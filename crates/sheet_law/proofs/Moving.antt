-- Where the piles of a shuffle under listed places go.
use Rattle.std.proofs.Common.{◌≡◌, ℕ, suc, ◌+◌, ◌-◌, ◌*◌, ◌/◌, ◌%◌, ◌<◌, ◌≤◌, true, false, cond, List, length, get_or, sym, ap, ◌∙◌, subst, mul_comm, arith}
use Rattle.std.proofs.lemmas.Bool.{cond-true, cond-false}
use Rattle.std.proofs.lemmas.Nat.{mul-add-lt, div-mul-add, mod-mul-add}
use Rattle.cards.specs.Lists.{member, distinct, position}
use Rattle.cards.specs.Shuffles.{ShuffleMeaning, LawfulShuffle, image, piles, piles_fit, places, places_fit}
use Rattle.shuffles.specs.Lawful.{image_in}
use Rattle.shuffles.specs.Positions.{position_below, member_getD, distinct_range, distinct_apart}
use Rattle.writing.specs.Writing.{KeepsPiles}
use Rattle.sheet_law.specs.Named.{goes_to, MovesPiles}
use Rattle.sheet_law.proofs.Fitting.{piles_are_fit, places_are_fit, placed_width, placed_total}

-- a number stands at its own position, where none stands twice
position_at : (low high : ℕ) (xs : List ℕ) → distinct low high xs ≡ true → (r : ℕ) → r < length xs → position (get_or xs r 0) xs ≡ r
position_at low high xs d r l =
    let p = position_below (get_or xs r 0) xs (member_getD xs r l) in
    distinct_apart low high xs d (position (get_or xs r 0) xs) r p.0 l p.1

module _ (n m q : ℕ) (ps : List ℕ) (some : 1 ≤ n) (few : n ≤ 12) (k : KeepsPiles n m q ps)
    (below : ShuffleMeaning) (w : below.width ≡ q) (law : LawfulShuffle below) where
  abbrev piled : ShuffleMeaning
  piled = record {
    width = below.width * m;
    total = below.total;
    sends = λ d s. image below d (s / m) * m + s % m;
  }

  piled_is : piles m below ≡ piled
  piled_is = cond-true (piles_fit m below) _ _ (piles_are_fit n m q ps some few k below w)

  abbrev placed : ShuffleMeaning
  placed = record {
    width = n;
    total = (piles m below).total;
    sends = λ d s. cond (member (s + 1) ps) (get_or ps (image (piles m below) d (position (s + 1) ps)) 0 - 1) s;
  }

  placed_is : places n ps (piles m below) ≡ placed
  placed_is = cond-true (places_fit n ps (piles m below)) _ _ (places_are_fit n m q ps some few k below w)

  module _ (d : ℕ) (l : d < below.total) where
    drawn : d < (piles m below).total
    drawn = subst (λ t. d < t) (sym (ap (λ (s : ShuffleMeaning). s.total) piled_is)) l

    sent : (p : ℕ) → 1 ≤ p → p ≤ n
        → image (places n ps (piles m below)) d (p - 1)
        ≡ cond (member p ps) (get_or ps (image (piles m below) d (position p ps)) 0 - 1) (p - 1)
    sent p a b =
        let z : p - 1 + 1 ≡ p = omega arith in
        ap (λ s. image s d (p - 1)) placed_is
        ∙ (image_in placed d (p - 1) drawn (omega arith)
        ∙ ap (λ x. cond (member x ps) (get_or ps (image (piles m below) d (position x ps)) 0 - 1) (p - 1)) z)

    other_stays : (p : ℕ) → 1 ≤ p → p ≤ n → member p ps ≡ false → goes_to (places n ps (piles m below)) d p ≡ p
    other_stays p a b f =
        let e = sent p a b ∙ cond-false (member p ps) _ _ f in
        let z : suc (p - 1) ≡ p = omega arith in
        ap suc e ∙ z

    module _ (j i : ℕ) (jl : j < q) (il : i < m) where
      in_row : (x : ℕ) → x < q → x * m + i < q * m
      in_row x h = subst (λ y. x * m + i < y) (mul_comm m q) (mul-add-lt x m i q h il)

      below_slot : j < below.width
      below_slot = subst (λ x. j < x) (sym w) jl

      sent_inside : below.sends d j < q
      sent_inside = subst (λ x. below.sends d j < x) w (law.inside d j l below_slot)

      pile_moved : image (piles m below) d (j * m + i) ≡ below.sends d j * m + i
      pile_moved =
          ap (λ s. image s d (j * m + i)) piled_is
          ∙ (image_in piled d (j * m + i) l (subst (λ x. j * m + i < x * m) (sym w) (in_row j jl))
          ∙ (ap (λ x. image below d x * m + (j * m + i) % m) (div-mul-add j m i il)
          ∙ (ap (λ x. image below d j * m + x) (mod-mul-add j m i il)
          ∙ ap (λ x. x * m + i) (image_in below d j l below_slot))))

      listed_moves : goes_to (places n ps (piles m below)) d (get_or ps (j * m + i) 0) ≡ get_or ps (below.sends d j * m + i) 0
      listed_moves =
          let r : j * m + i < length ps = subst (λ x. j * m + i < x) (sym k.long) (in_row j jl) in
          let t : below.sends d j * m + i < length ps = subst (λ x. below.sends d j * m + i < x) (sym k.long) (in_row (below.sends d j) sent_inside) in
          let here = distinct_range 1 n ps k.apart (j * m + i) r in
          let there = distinct_range 1 n ps k.apart (below.sends d j * m + i) t in
          let z : suc (get_or ps (below.sends d j * m + i) 0 - 1) ≡ get_or ps (below.sends d j * m + i) 0 = omega (arith, there.0) in
          ap suc
          (sent (get_or ps (j * m + i) 0) here.0 here.1
          ∙ (cond-true (member (get_or ps (j * m + i) 0) ps) _ _ (member_getD ps (j * m + i) r)
          ∙ (ap (λ x. get_or ps (image (piles m below) d x) 0 - 1) (position_at 1 n ps k.apart (j * m + i) r)
          ∙ ap (λ x. get_or ps x 0 - 1) pile_moved)))
          ∙ z

  pub moves : (draws : ℕ) (onto : ℕ → ℕ → ℕ) → below.total ≡ draws → ((d j : ℕ) → d < draws → j < q → below.sends d j ≡ onto d j)
      → MovesPiles n m q ps draws onto (places n ps (piles m below))
  moves draws onto t f =
      record {
        width = placed_width n m q ps some few k below w;
        total = placed_total n m q ps some few k below w ∙ t;
        listed = λ d j i dl jl il.
            listed_moves d (subst (λ x. d < x) (sym t) dl) j i jl il
            ∙ ap (λ x. get_or ps (x * m + i) 0) (f d j dl jl);
        others = λ d p dl a b e. other_stays d (subst (λ x. d < x) (sym t) dl) p a b e;
      }
