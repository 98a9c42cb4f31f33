-- A state is fixed by its weights; the weights of the start state and after a permute or a shuffle.
use Rattle.std.proofs.Common.{◌≡◌, ℕ, ◌+◌, ◌*◌, ◌<◌, ◌≤◌, cond, ◌&&◌, eqb, ltb, List, [], ◌∷◌, length, get_or, sum_by, sym, refl, ap, ◌∙◌, subst, inl, inr, zero-add, arith, lt-ltb, ne_eqb}
use mathlib.Core.Path.{fun_ext}
use Rattle.std.specs.List.{AllByRecursion}
use Rattle.std.proofs.ByRecursion.{All-weaker}
use Rattle.std.proofs.lemmas.List.{ext_get_or, get_or_default}
use Rattle.std.proofs.lemmas.List.Sums.{sum_by-cons}
use Rattle.std.proofs.lemmas.Bool.{cases_eq, cases_lt, cases_order, cond-true, and_from}
use Rattle.cards.specs.Rows.{carried, packed, unpacked, OneToOne}
use Rattle.cards.specs.Shuffles.{ShuffleMeaning, LawfulShuffle, image}
use Rattle.cards.proofs.Moves.{unpack_pack, pack_unpack, unpack_dealt, carried_found}
use Rattle.script.specs.Model.{permute, shuffle, LawfulAction}
use Rattle.protocol.specs.Machine.{Protocol, LawfulProtocol, inputs, laid, fitted, Mixing, permuting, shuffling, moved, one_if, sum_below}
use Rattle.protocol.specs.States.{Row, weight, weight_of, cards_of, start_state, mixed, Above, Weighted, State}
use Rattle.protocol.specs.Promises.{OneState, Starts, MixesTo, carried_number}
use Rattle.protocol.proofs.Sums.{sum_by_all, cond_ge, times_one}
use Rattle.protocol.proofs.Dealt.{dealt_carried, lawful_fitted, fitted_width, fitted_total}
use Rattle.protocol.proofs.Weighed.{weighed, weighed_started, weighed_start, weighed_mixed, Inward}
use Rattle.protocol.proofs.Good.{Packed, Good, good_start, good_mixed_from, weight_above, weight_first, ascending_above}

-- one state

row_same : (x y : Row) → x.sequence ≡ y.sequence → Weighted x → Weighted y → ((b : ℕ) → b < 8 → weight b x ≡ weight b y) → x ≡ y
row_same x y e w v h =
    ap (λ s. record { sequence = s; weights = x.weights }) e
    ∙ ap (λ ws. record { sequence = y.sequence; weights = ws })
    (ext_get_or 0 x.weights y.weights (w.eight ∙ sym v.eight) (λ i l. h i (let k = w.eight in omega arith)))

skip : (b z : ℕ) (x : Row) (xs : List Row) → (x.sequence ≡ z → ⊥) → weight_of b z (x ∷ xs) ≡ weight_of b z xs
skip b z x xs ne =
    sum_by-cons (λ r. cond (eqb r.sequence z) (weight b r) 0) x xs
    ∙ ap (λ t. cond t (weight b x) 0 + weight_of b z xs) (ne_eqb x.sequence z ne)
    ∙ zero-add (weight_of b z xs)

-- a row that the other state lacks
lacks : (x : Row) (xs others : List Row) → Above x.sequence xs → Weighted x → ((b : ℕ) → weight_of b x.sequence others ≡ 0) → ((b z : ℕ) → b < 8 → weight_of b z (x ∷ xs) ≡ weight_of b z others) → ⊥
lacks x xs others a w none same =
    let b = w.some.0 in
    let e = same b x.sequence w.some.1 in
    let f = weight_first b x xs a in
    let g = none b in
    let h = w.some.2 in
    omega arith

pub one_state : OneState
one_state [] [] s t same = refl
one_state [] (y ∷ ys) s t same =
    absurd (lacks y ys [] t.ascending t.weighted.0 (λ b. refl) (λ b z l. sym (same b z l)))
one_state (x ∷ xs) [] s t same =
    absurd (lacks x xs [] s.ascending s.weighted.0 (λ b. refl) same)
one_state (x ∷ xs) (y ∷ ys) s t same =
    elim (cases_order x.sequence y.sequence) [
      | inl e ↦
          let heads : x ≡ y =
          row_same x y e s.weighted.0 t.weighted.0
          (λ b l. sym (weight_first b x xs s.ascending) ∙ same b x.sequence l ∙ ap (λ z. weight_of b z (y ∷ ys)) e ∙ weight_first b y ys t.ascending) in
          let tails : xs ≡ ys =
          one_state xs ys
          (record { ascending = ascending_above x.sequence xs s.ascending; weighted = s.weighted.1 })
          (record { ascending = ascending_above y.sequence ys t.ascending; weighted = t.weighted.1 })
          (λ b z l. below e b z l) in
          cc
      | inr o ↦
          elim o [
            | inl l ↦ absurd (lacks x xs (y ∷ ys) s.ascending s.weighted.0 (λ b. weight_above b x.sequence (y ∷ ys) (l, t.ascending) x.sequence (omega arith)) same)
            | inr l ↦ absurd (lacks y ys (x ∷ xs) t.ascending t.weighted.0 (λ b. weight_above b y.sequence (x ∷ xs) (l, s.ascending) y.sequence (omega arith)) (λ b z k. sym (same b z k)))
          ]
    ]
  where
    below : x.sequence ≡ y.sequence → (b z : ℕ) → b < 8 → weight_of b z xs ≡ weight_of b z ys
    below e b z l =
        elim (cases_eq x.sequence z) [
          | inl q ↦
              weight_above b x.sequence xs s.ascending z (omega arith)
              ∙ sym (weight_above b y.sequence ys t.ascending z (omega arith))
          | inr ne ↦ sym (skip b z x xs ne) ∙ same b z l ∙ skip b z y ys (λ q. ne (e ∙ q))
        ]

-- the weighted sum against the test of a sequence
weighed_number : (n b x : ℕ) (rows : List Row) → AllByRecursion (Packed n) rows → weighed n b (λ a. one_if (eqb (packed n a) x)) rows ≡ weight_of b x rows
weighed_number n b x rows h =
    sum_by_all (λ r. weight b r * one_if (eqb (packed n (cards_of n r)) x)) (λ r. cond (eqb r.sequence x) (weight b r) 0) rows
    (All-weaker (Packed n) (λ r. weight b r * one_if (eqb (packed n (cards_of n r)) x) ≡ cond (eqb r.sequence x) (weight b r) 0)
    (λ r e. ap (λ k. weight b r * one_if (eqb k x)) e ∙ times_one (weight b r) (eqb r.sequence x)) rows h)

pub starts : (p : Protocol) → LawfulProtocol p → inputs p ≤ 8 → Starts p
starts p ok few =
    record {
      state = good.state;
      weights = λ b x h.
          sym (weighed_number n b x (start_state p) good.numbered)
          ∙ weighed_start p b (λ a. one_if (eqb (packed n a) x)) ok h (omega arith);
      no_input = λ b x h l.
          sym (weighed_number n b x (start_state p) good.numbered)
          ∙ weighed_started p b (λ a. one_if (eqb (packed n a) x)) ok l (inputs p)
          ∙ cond_ge b (inputs p) (one_if (eqb (packed n (laid p b)) x)) 0 h;
    }
  where
    n : ℕ
    n = p.script.cards

    good : Good n (start_state p)
    good = good_start p ok few

-- a mixing

-- slots that move among themselves, no two to one
abbrev Apart : ℕ → Mixing → Type 0
Apart n m = (d s t : ℕ) → d < m.total → s < n → t < n → m.sends d s ≡ m.sends d t → s ≡ t

one_to_one : (n : ℕ) (m : Mixing) → Inward n m → Apart n m → n ≤ 12 → (d : ℕ) → d < m.total → OneToOne 12 (m.sends d)
one_to_one n m ins apart few d h =
    record {
      below = λ s l. elim (cases_lt s n) [
        | inl k ↦ let i = (ins d).below s k in omega arith
        | inr k ↦ let i = (ins d).stay s k in omega arith
      ];
      apart = λ s t l k e. elim (cases_lt s n) [
        | inl i ↦ elim (cases_lt t n) [
          | inl j ↦ apart d s t h i j e
          | inr j ↦ absurd (let a = (ins d).below s i in let c = (ins d).stay t j in omega arith)
        ]
        | inr i ↦ elim (cases_lt t n) [
          | inl j ↦ absurd (let a = (ins d).below t j in let c = (ins d).stay s i in omega arith)
          | inr j ↦ (let a = (ins d).stay s i in let c = (ins d).stay t j in omega arith)
        ]
      ];
    }

carried_one : (to : ℕ → ℕ) (a c : List ℕ) → OneToOne 12 to → length a ≡ 12 → length c ≡ 12 → carried to a ≡ carried to c → a ≡ c
carried_one to a c one la lc e =
    ext_get_or 0 a c (la ∙ sym lc)
    (λ s h.
    sym (carried_found to a (subst (λ k. OneToOne k to) (sym la) one) s h)
    ∙ ap (λ l. get_or l (to s) 0) e
    ∙ carried_found to c (subst (λ k. OneToOne k to) (sym lc) one) s (omega arith))

pub mixes_to : (n : ℕ) (m : Mixing) → n ≤ 12 → Inward n m → Apart n m → (rows : List Row) → State rows → MixesTo n m rows
mixes_to n m few ins apart rows s =
    record {
      state = good.state;
      weights = λ b x l.
          sym (weighed_number n b x (mixed n m rows) good.numbered)
          ∙ weighed_mixed n b (λ a. one_if (eqb (packed n a) x)) m l few ins rows
          ∙ ap (sum_below m.total) (fun_ext (λ d. ap (λ f. sum_by f rows) (fun_ext (λ r. times_one (weight b r) (eqb (carried_number n m d r.sequence) x)))));
      one = λ d x y h k l e.
          let a = unpack_dealt n x few in
          let c = unpack_dealt n y few in
          let q : moved m d (unpacked n x) ≡ moved m d (unpacked n y) =
          sym (unpack_pack n (moved m d (unpacked n x)) few (dealt_carried n (m.sends d) (unpacked n x) (ins d) a))
          ∙ ap (unpacked n) e
          ∙ unpack_pack n (moved m d (unpacked n y)) few (dealt_carried n (m.sends d) (unpacked n y) (ins d) c) in
          sym (pack_unpack n x few k)
          ∙ ap (packed n) (carried_one (m.sends d) (unpacked n x) (unpacked n y) (one_to_one n m ins apart few d h) a.long c.long q)
          ∙ pack_unpack n y few l;
    }
  where
    good : Good n (mixed n m rows)
    good = good_mixed_from n m few ins rows s.weighted

pub apart_permuting : (p : Protocol) (l next : ℕ) (images : List ℕ) → LawfulAction p.script.cards p.script.lines l (permute images next) → Apart p.script.cards (permuting images next)
apart_permuting p l next images law d s t h i j e =
    law.0.apart s t i j
    (sym (get_or_default images s s 0 (rw law.0.long i)) ∙ e ∙ get_or_default images t t 0 (rw law.0.long j))

image_in : (m : ShuffleMeaning) (d s : ℕ) → d < m.total → s < m.width → image m d s ≡ m.sends d s
image_in m d s h i =
    cond-true (ltb d m.total && ltb s m.width) (m.sends d s) s
    (and_from (ltb d m.total) (ltb s m.width) (lt-ltb d m.total h) (lt-ltb s m.width i))

pub apart_shuffling : (p : Protocol) → LawfulProtocol p → (l total next : ℕ) → LawfulAction p.script.cards p.script.lines l (shuffle total next) → Apart p.script.cards (shuffling p l total next)
apart_shuffling p ok l total next law d s t h i j e =
    lawful.one_to_one d s t draw (slot s i) (slot t j)
    (sym (image_in m d s draw (slot s i)) ∙ e ∙ image_in m d t draw (slot t j))
  where
    n : ℕ
    n = p.script.cards

    m : ShuffleMeaning
    m = fitted n total (p.bank l)

    lawful : LawfulShuffle m
    lawful =
        lawful_fitted n total (p.bank l) (let k = ok.script.some_cards in omega arith) ok.script.few_cards law.0 law.1.0 (ok.bank l)

    draw : d < m.total
    draw = rw (fitted_total n total (p.bank l)) h

    slot : (i : ℕ) → i < n → i < m.width
    slot i k = rw (fitted_width n total (p.bank l)) k
