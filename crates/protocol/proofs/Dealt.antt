-- What a script's lines do to a row of cards leaves it a row of that many cards.
use Rattle.std.proofs.Common.{◌≡◌, ℕ, suc, ◌+◌, ◌<◌, ◌≤◌, Bool, true, false, cond, ◌&&◌, eqb, ltb, ◌⊎◌, List, [], ◌∷◌, length, get_or, set, sym, refl, ap, ◌∙◌, subst, inl, inr, zero-add, arith, length-set, get_or-set_other, get_or-set_same, ltb-true, le-ltb, eqb-true}
use Rattle.std.proofs.lemmas.List.{get_or_past, set_past, get_or_default}
use Rattle.std.proofs.lemmas.Bool.{cases_lt, cases_eq, and_parts, and_right, cond-false}
use Rattle.std.proofs.lemmas.List.FromFn.{get_or-map-range_with_len}
use Rattle.cards.specs.Lists.{table}
use Rattle.cards.specs.Rows.{settled, carried, Dealt}
use Rattle.cards.specs.Shuffles.{ShuffleMeaning, LawfulShuffle, image, Permutes}
use Rattle.protocol.specs.Machine.{Protocol, LawfulProtocol, laid, fitted}
use Rattle.protocol.proofs.Sums.{cond_lt, cond_ge}

pub table_at : (f : ℕ → ℕ) (n s : ℕ) → s < n → get_or (table n f) s 0 ≡ f s
table_at f n s h = get_or-map-range_with_len f 0 n s s 0 h (zero-add s)

-- a table of twelve cards is a row
dealt_table : (n : ℕ) (f : ℕ → ℕ) → ((s : ℕ) → s < n → f s < 16) → n ≤ 12 → Dealt n (table 12 (λ s. cond (ltb s n) (f s) 0))
dealt_table n f small few = record { long = refl; cards = low; beyond = past }
  where
    g : ℕ → ℕ
    g s = cond (ltb s n) (f s) 0

    past : (s : ℕ) → n ≤ s → get_or (table 12 g) s 0 ≡ 0
    past s h =
        elim (cases_lt s 12) [
          | inl l ↦ table_at g 12 s l ∙ cond_ge s n (f s) 0 h
          | inr l ↦ get_or_past (table 12 g) s 0 l
        ]

    low : (s : ℕ) → s < n → get_or (table 12 g) s 0 < 16
    low s l = rw (table_at g 12 s (omega arith) ∙ cond_lt s n (f s) 0 l) (small s l)

-- slots below n go below n, and the others stay
pub record Inside (n : ℕ) (to : ℕ → ℕ) : Type 0 where
  pub below : (s : ℕ) → s < n → to s < n
  pub stay : (s : ℕ) → n ≤ s → to s ≡ s

get_d_set : (xs : List ℕ) (i j v : ℕ) → ((get_or (set xs i v) j 0 ≡ v) × (i ≡ j)) ⊎ (get_or (set xs i v) j 0 ≡ get_or xs j 0)
get_d_set xs i j v =
    elim (cases_eq i j) [
      | inl e ↦
          elim (cases_lt i (length xs)) [
            | inl h ↦ inl (subst (λ k. get_or (set xs i v) k 0 ≡ v) e (get_or-set_same xs i v 0 h), e)
            | inr h ↦ inr (ap (λ l. get_or l j 0) (set_past xs i v h))
          ]
      | inr ne ↦ inr (get_or-set_other xs i j v 0 (λ e. ne (sym e)))
    ]

dealt_settled : (n : ℕ) (to : ℕ → ℕ) → Inside n to → (s : ℕ) (cs after : List ℕ) → ((i : ℕ) → s + i < n → get_or cs i 0 < 16) → ((i : ℕ) → n ≤ s + i → get_or cs i 0 ≡ 0) → Dealt n after → Dealt n (settled to s cs after)
dealt_settled n to ins s [] after small rest ok = ok
dealt_settled n to ins s (c ∷ cs) after small rest ok =
    dealt_settled n to ins (suc s) cs (set after (to s) c) (λ i h. small (suc i) (omega arith))
    (λ i h. rest (suc i) (omega arith))
    (record {
      long = length-set after (to s) c ∙ ok.long;
      cards = λ j h. elim (get_d_set after (to s) j c) [
        | inl e ↦ rw e.0 (carded j h e.1)
        | inr e ↦ rw e (ok.cards j h)
      ];
      beyond = λ j h. elim (get_d_set after (to s) j c) [
        | inl e ↦ e.0 ∙ zeroed j h e.1
        | inr e ↦ e ∙ ok.beyond j h
      ];
    })
  where
    zeroed : (j : ℕ) → n ≤ j → to s ≡ j → c ≡ 0
    zeroed j h e =
        elim (cases_lt s n) [
          | inl l ↦ absurd (let k = ins.below s l in omega arith)
          | inr l ↦ rest 0 (omega arith)
        ]

    carded : (j : ℕ) → j < n → to s ≡ j → c < 16
    carded j h e =
        elim (cases_lt s n) [
          | inl l ↦ small 0 (omega arith)
          | inr l ↦ absurd (let k = ins.stay s l in omega arith)
        ]

pub dealt_carried : (n : ℕ) (to : ℕ → ℕ) (a : List ℕ) → Inside n to → Dealt n a → Dealt n (carried to a)
dealt_carried n to a ins ok =
    dealt_settled n to ins 0 a a (λ i h. ok.cards i (omega arith)) (λ i h. ok.beyond i (omega arith)) ok

-- the moves of a script's lines

pub inside_permute : (n : ℕ) (images : List ℕ) → Permutes n images → Inside n (λ s. get_or images s s)
inside_permute n images ok =
    record {
      below = λ s h.
          let e : get_or images s s ≡ get_or images s 0 = get_or_default images s s 0 (rw ok.long h) in
          rw e (ok.below s h);
      stay = λ s h. get_or_past images s s (rw ok.long h);
    }

pub lawful_fitted : (n total : ℕ) (m : ShuffleMeaning) → 1 ≤ n → n ≤ 12 → 1 ≤ total → total ≤ 65535 → LawfulShuffle m → LawfulShuffle (fitted n total m)
lawful_fitted n total m some few some_draw few_draws ok =
    elim (eqb m.width n && eqb m.total total)
    as (λ t. LawfulShuffle (cond t m (record { width = n; total = total; sends = λ d s. s }))) [
      | true ↦ ok
      | false ↦
          record {
            some_slot = some;
            few_slots = few;
            some_draw = some_draw;
            few_draws = few_draws;
            inside = λ d s h k. k;
            one_to_one = λ d s t h k l e. e;
          }
    ]

pub fitted_width : (n total : ℕ) (m : ShuffleMeaning) → (fitted n total m).width ≡ n
fitted_width n total m = go (eqb m.width n && eqb m.total total) refl
  where
    go : (t : Bool) → (eqb m.width n && eqb m.total total) ≡ t → (cond t m (record { width = n; total = total; sends = λ d s. s })).width ≡ n
    go true e = eqb-true m.width n (and_parts (eqb m.width n) (eqb m.total total) e).0
    go false e = refl

pub fitted_total : (n total : ℕ) (m : ShuffleMeaning) → (fitted n total m).total ≡ total
fitted_total n total m = go (eqb m.width n && eqb m.total total) refl
  where
    go : (t : Bool) → (eqb m.width n && eqb m.total total) ≡ t → (cond t m (record { width = n; total = total; sends = λ d s. s })).total ≡ total
    go true e = eqb-true m.total total (and_parts (eqb m.width n) (eqb m.total total) e).1
    go false e = refl

inside_image : (m : ShuffleMeaning) (d : ℕ) → LawfulShuffle m → Inside m.width (image m d)
inside_image m d ok =
    record {
      below = λ s h. go s h (ltb d m.total && ltb s m.width) refl;
      stay = λ s h. cond-false (ltb d m.total && ltb s m.width) (m.sends d s) s (and_right (ltb d m.total) (ltb s m.width) (le-ltb s m.width h));
    }
  where
    go : (s : ℕ) → s < m.width → (t : Bool) → (ltb d m.total && ltb s m.width) ≡ t → cond t (m.sends d s) s < m.width
    go s h true e = ok.inside d s (ltb-true d m.total (and_parts (ltb d m.total) (ltb s m.width) e).0) h
    go s h false e = h

pub inside_fitted : (n total : ℕ) (m : ShuffleMeaning) (d : ℕ) → 1 ≤ n → n ≤ 12 → 1 ≤ total → total ≤ 65535 → LawfulShuffle m → Inside n (image (fitted n total m) d)
inside_fitted n total m d some few some_draw few_draws ok =
    subst (λ w. Inside w (image (fitted n total m) d)) (fitted_width n total m)
    (inside_image (fitted n total m) d (lawful_fitted n total m some few some_draw few_draws ok))

pub dealt_laid : (p : Protocol) (b : ℕ) → LawfulProtocol p → Dealt p.script.cards (laid p b)
dealt_laid p b ok =
    dealt_table p.script.cards (λ s. p.deck.card (get_or p.script.codes s 0) b)
    (λ s h. ok.deck.sixteen (get_or p.script.codes s 0) b) ok.script.few_cards
