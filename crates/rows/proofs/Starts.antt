-- The rows of the start state, one input after another.
use Rattle.std.proofs.Common.{◌≡◌, ℕ, zero, suc, ◌+◌, ◌-◌, ◌^◌, min, ◌<◌, ◌≤◌, Bool, cond, eqb, ltb, List, length, get_or, set, replicate, sym, ap, ◌∙◌, inl, inr, add-zero, add-suc, zero-add, add-one, arith}
use Rattle.std.proofs.lemmas.List.FromFn.{fill_by_all, get_or-map-range_with_len}
use Rattle.std.proofs.lemmas.List.{length-set, get_or-set_same, get_or-set_other, get_or-replicate}
use Rattle.std.proofs.lemmas.Bool.{cases_eq, eq-eqb, ne_eqb}
use Rattle.std.proofs.lemmas.Bool.Decides.{nat_tests}
use Rattle.cards.specs.Decks.{DeckMeaning}
use Rattle.cards.specs.Lists.{table}
use Rattle.cards.specs.Rows.{packed}
use Rattle.protocol.specs.Machine.{Protocol, laid}
use Rattle.protocol.specs.States.{Row, join, unit_row, started, total_of}
use Rattle.rows.specs.declared.row.Row as code
use Rattle.rows.specs.Views.{row_view, Lays}
use Rattle.rows.proofs.Order.{join_longer}
use Rattle.rows.proofs.Totals.{total_join}

abbrev pub zeros : List ℕ
zeros = replicate 8 0

pub unit_weights : (i : ℕ) → i < 8 → set zeros i 1 ≡ table 8 (λ b. cond (eqb b i) 1 0)
unit_weights i l =
    fill_by_all (λ (b : ℕ). cond (eqb b i) 1 0) (set zeros i 1) 8 0 (length-set zeros i 1)
    (λ k h.
    elim (cases_eq k i) [
      | inl e ↦ ap (λ (n : ℕ). get_or (set zeros i 1) n 0) e ∙ get_or-set_same zeros i 1 0 l ∙ sym (ap (λ (t : Bool). cond t 1 0) (eq-eqb k i e))
      | inr ne ↦ get_or-set_other zeros i k 1 0 ne ∙ get_or-replicate 8 k 0 0 h ∙ sym (ap (λ (t : Bool). cond t 1 0) (ne_eqb k i ne))
    ])

module _ (p : Protocol) (players : ℕ) (codes : List ℕ) (deck : DeckMeaning) (h : Lays p players codes deck) where
  pub laid_is : (b : ℕ) → table 12 (λ s. cond (ltb s (length codes)) (deck.card (get_or codes s 0) b) 0) ≡ laid p b
  laid_is b =
      ap (λ (n : ℕ). table 12 (λ s. cond (ltb s n) (deck.card (get_or codes s 0) b) 0)) (sym h.cards_are)
      ∙ ap (λ (xs : List ℕ). table 12 (λ s. cond (ltb s p.script.cards) (deck.card (get_or xs s 0) b) 0)) (sym h.codes_are)
      ∙ ap (λ (m : DeckMeaning). table 12 (λ s. cond (ltb s p.script.cards) (m.card (get_or p.script.codes s 0) b) 0)) (sym h.deck_is)

  pub unit_is : (b : ℕ) (r : code.Row) (cards : List ℕ) → cards ≡ table 12 (λ s. cond (ltb s (length codes)) (deck.card (get_or codes s 0) b) 0) → r.sequence ≡ packed (length codes) cards → r.weights ≡ table 8 (λ c. cond (eqb c b) 1 0) → row_view r ≡ unit_row p b
  unit_is b r cards e f g =
      let q : r.sequence ≡ packed p.script.cards (laid p b) = f ∙ ap (packed (length codes)) (e ∙ laid_is b) ∙ ap (λ (n : ℕ). packed n (laid p b)) (sym h.cards_are) in
      ap (λ (x : ℕ). let y : Row = record { sequence = x; weights = r.weights } in y) q
      ∙ ap (λ (w : List ℕ). let y : Row = record { sequence = packed p.script.cards (laid p b); weights = w } in y) g

pub started_longer : (p : Protocol) (d e : ℕ) → length (started p d) ≤ length (started p (d + e))
started_longer p d zero = rw add-zero (omega arith)
started_longer p d (suc e) =
    let a = started_longer p d e in
    let b = join_longer (unit_row p (d + e)) (started p (d + e)) in
    rw add-suc (omega arith)

pub started_room : (p : Protocol) (d total : ℕ) (r : Row) (S : List Row) → d < total → r ≡ unit_row p d → S ≡ started p d → length (join r S) ≤ length (started p total)
started_room p d total r S l e f =
    let g : suc d + (total - suc d) ≡ total = omega arith in
    let k = started_longer p (suc d) (total - suc d) in
    let q : length (join r S) ≡ length (started p (suc d)) = ap (λ (x : Row). length (join x S)) e ∙ ap (λ (xs : List Row). length (join (unit_row p d) xs)) f in
    let u : length (started p (suc d + (total - suc d))) ≡ length (started p total) = ap (λ (x : ℕ). length (started p x)) g in
    omega arith

pub started_next : (p : Protocol) (d : ℕ) (r : Row) (S T : List Row) → r ≡ unit_row p d → S ≡ started p d → T ≡ join r S → T ≡ started p (d + 1)
started_next p d r S T e f g =
    g ∙ ap (λ (x : Row). join x S) e ∙ ap (join (unit_row p d)) f ∙ ap (started p) (sym (add-one d))

pub unit_total : (b i : ℕ) (r : Row) (S T : List Row) → b < 8 → r.weights ≡ table 8 (λ c. cond (eqb c i) 1 0) → total_of b S ≡ cond (ltb b i) 1 0 → T ≡ join r S → total_of b T ≡ cond (ltb b (i + 1)) 1 0
unit_total b i r S T l w s e =
    let a : get_or r.weights b 0 ≡ cond (eqb b i) 1 0 = ap (λ (ws : List ℕ). get_or ws b 0) w ∙ get_or-map-range_with_len (λ (c : ℕ). cond (eqb c i) 1 0) 0 8 b b 0 l (zero-add b) in
    let t : total_of b T ≡ get_or r.weights b 0 + total_of b S = ap (total_of b) e ∙ total_join b l r S in
    let k : cond (eqb b i) 1 0 + cond (ltb b i) 1 0 ≡ cond (ltb b (i + 1)) 1 0 = grind (arith, nat_tests) in
    omega arith

pub few_inputs : (k : ℕ) → k ≤ 3 → 2 ^ k ≤ 8
few_inputs zero h = omega arith
few_inputs (suc zero) h = omega arith
few_inputs (suc (suc zero)) h = omega arith
few_inputs (suc (suc (suc zero))) h = omega arith
few_inputs (suc (suc (suc (suc k)))) h = absurd (omega arith)

-- how many inputs up to three players have, as the code counts them
pub record Counted (players n : ℕ) : Type 0 where
  pub many : n ≡ 2 ^ players
  pub few : n ≤ 8

pub counted : (players n : ℕ) → players ≤ 3 → n ≡ 2 ^ min players 3 → Counted players n
counted players n h e =
    let m : n ≡ 2 ^ players = e ∙ ap (λ (k : ℕ). 2 ^ k) (let q : min players 3 ≡ players = omega arith in q) in
    let f = few_inputs players h in
    record { many = m; few = omega arith }
