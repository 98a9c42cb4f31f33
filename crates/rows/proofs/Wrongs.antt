-- What is wrong at a result, input by input and row by row.
use Rattle.std.proofs.Common.{◌≡◌, ℕ, zero, suc, ◌+◌, ◌^◌, true, false, cond, List, [], ◌∷◌, Some, None, Option, sym, refl, ap, ◌∙◌, add-one}
use Rattle.std.specs.List.{find, range_with_len}
use Rattle.std.specs.Option.{option_or, option_map, MatchOption, IsSomeAnd}
use Rattle.cards.specs.Decks.{bit, DeckMeaning}
use Rattle.cards.specs.declared.reading.Reading.{Reading}
use Rattle.script.specs.Model.{Action}
use Rattle.protocol.specs.Machine.{Protocol, inputs, action_at, is_result, given}
use Rattle.protocol.specs.States.{Row, Wrong, cards_of, first_input, first_wrong, wrongness}
use Rattle.rows.specs.declared.row.Row as code
use Rattle.rows.specs.declared.outcome.Wrong as found
use Rattle.rows.specs.Views.{row_view, rows_view}
use Rattle.rows.specs.Nodes.{Computes, wrong_view, action_of, strays, first_stray}
use Rattle.rows.specs.declared.outcome.Outcome.{Outcome}
use Rattle.rows.specs.declared.outcome.Outcome.TheVariants.{Committed, Opened}
use Rattle.rows.proofs.Found.{first_some}

abbrev pub wrong_at : Row → Reading → ℕ → Wrong
wrong_at r reading b = record { row = r; input = b; reading = reading }

-- the first input that strays, of k from b on
first_found : (p : Protocol) (reading : Reading) (r : Row) (k b : ℕ) → option_map (wrong_at r reading) (find (strays p.script.function reading r.weights) (range_with_len b k)) ≡ first_input p reading r b k
first_found p reading r zero b = refl
first_found p reading r (suc k) b =
    let rest = first_found p reading r k (b + 1) ∙ ap (λ (x : ℕ). first_input p reading r x k) (add-one b) in
    elim (strays p.script.function reading r.weights b) as (λ t. option_map (wrong_at r reading) (cond t (Some b) (find (strays p.script.function reading r.weights) (range_with_len (b + 1) k))) ≡ option_or (cond t (Some (wrong_at r reading b)) None) (first_input p reading r (suc b) k)) [
      | true ↦ refl
      | false ↦ rest
    ]

pub input_found : (function : ℕ) (reading : Reading) (r : Row) (o : Option ℕ) (n : ℕ) → option_map (λ x. x) o ≡ find (strays function reading r.weights) (range_with_len 0 n) → option_map (wrong_at r reading) o ≡ first_stray function n reading r
input_found function reading r None n e = ap (option_map (wrong_at r reading)) e
input_found function reading r (Some x) n e = ap (option_map (wrong_at r reading)) e

-- the input found, as what is wrong
pub map_found : (row : code.Row) (reading : Reading) (post : ℕ → found.Wrong → Type 0) (o : Option ℕ) (a : Option found.Wrong) → MatchOption o (a ≡ None) (λ x. IsSomeAnd a (post x)) → ((x : ℕ) (w : found.Wrong) → post x w → w ≡ record { row = row; input = x; reading = reading }) → wrong_view a ≡ option_map (wrong_at (row_view row) reading) o
map_found row reading post None a h is = ap wrong_view h
map_found row reading post (Some x) None h is = absurd h
map_found row reading post (Some x) (Some w) h is = ap (λ (v : found.Wrong). wrong_view (Some v)) (is x w h)

-- what is wrong in the rows, where the protocol has these cards, this deck, this function and this number of players
module _ (p : Protocol) (action : Action) (players function n : ℕ) (deck : DeckMeaning) (h : Computes p players function) (cards : p.script.cards ≡ n) (d : p.deck ≡ deck) where
  abbrev pub wrong_in : code.Row → Option Wrong
  wrong_in r = first_stray function (2 ^ players) (given deck (cards_of n (row_view r)) action) (row_view r)

  pub rows_wrong : (rows : List code.Row) → first_some wrong_in rows ≡ first_wrong p action (rows_view rows)
  rows_wrong [] = refl
  rows_wrong (r ∷ rs) =
      let rest : Option Wrong = first_wrong p action (rows_view rs) in
      ap (λ (o : Option Wrong). option_or (wrong_in r) o) (rows_wrong rs)
      ∙ ap (λ (k : ℕ). option_or (first_stray k (2 ^ players) (given deck (cards_of n (row_view r)) action) (row_view r)) rest) (sym h.function_is)
      ∙ ap (λ (k : ℕ). option_or (first_stray p.script.function (2 ^ k) (given deck (cards_of n (row_view r)) action) (row_view r)) rest) (sym h.players_are)
      ∙ ap (λ (k : ℕ). option_or (first_stray p.script.function (inputs p) (given deck (cards_of k (row_view r)) action) (row_view r)) rest) (sym cards)
      ∙ ap (λ (m : DeckMeaning). option_or (first_stray p.script.function (inputs p) (given m (cards_of p.script.cards (row_view r)) action) (row_view r)) rest) (sym d)
      ∙ ap (λ (o : Option Wrong). option_or o rest) (first_found p (given p.deck (cards_of p.script.cards (row_view r)) action) (row_view r) (inputs p) 0)

pub wrongness_is : (p : Protocol) (l : ℕ) (outcome : Outcome) (rows : List Row) → action_at p l ≡ action_of outcome → first_wrong p (action_of outcome) rows ≡ wrongness p l rows
wrongness_is p l (Committed left right) rows e = sym (ap (λ (a : Action). cond (is_result a) (first_wrong p a rows) None) e)
wrongness_is p l (Opened bit) rows e = sym (ap (λ (a : Action). cond (is_result a) (first_wrong p a rows) None) e)
