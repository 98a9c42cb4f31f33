-- What the rows of the code mean: rows of a state.
use Rattle.std.specs.Prelude.{◌≡◌, ℕ, ◌^◌, ◌<◌, ◌≤◌, List, [], map, length, take, drop, replicate, Option, MatchOption, slice_index, slice_index_or}
use Rattle.rows.specs.declared.row.Row as code
use Rattle.cards.specs.Decks.{DeckMeaning}
use Rattle.cards.specs.Shuffles.{ShuffleMeaning}
use Rattle.protocol.specs.Machine.{Protocol, Mixing}
use Rattle.protocol.specs.States.{Row}

abbrev pub row_view : code.Row → Row
row_view r = record { sequence = r.sequence; weights = r.weights }

abbrev pub rows_view : List code.Row → List Row
rows_view rows = map row_view rows

abbrev pub zero_row : code.Row
zero_row = record { sequence = 0; weights = replicate 8 0 }

-- the sequence of the row at an index, and 0 past the end
abbrev pub sequence_at : List code.Row → ℕ → ℕ
sequence_at rows k = (slice_index_or rows k (record { sequence = 0; weights = [] })).sequence

-- A state stands in the first m of the rows, and the rows after it are as they were.
pub record Written (m : ℕ) (state : List Row) (before after : List code.Row) : Type 0 where
  pub count : m ≡ length state
  pub room : m ≤ length before
  pub here : rows_view (take m after) ≡ state
  pub rest : drop m after ≡ drop m before

-- A state is written and its number of rows answered; or none, and the state has more rows than there is room.
abbrev pub Put : Option ℕ → List Row → List code.Row → List code.Row → Type 0
Put answer state before after = MatchOption answer (length before < length state) (λ m. Written m state before after)

-- Twelve images that a mixing sends the slots of a row to, under a draw.
abbrev pub Sends : List ℕ → Mixing → ℕ → Type 0
Sends images m d = (s : ℕ) → s < 12 → slice_index images s ≡ m.sends d s

-- totals, one for each of the eight inputs, that a 64-bit number holds
abbrev pub Small : (ℕ → ℕ) → Type 0
Small total = (b : ℕ) → b < 8 → total b < 2 ^ 64

-- A protocol of so many cards, whose bank has this shuffle at the line.
pub record Shuffles (p : Protocol) (cards line : ℕ) (shuffle : ShuffleMeaning) : Type 0 where
  pub cards_are : p.script.cards ≡ cards
  pub bank_has : p.bank line ≡ shuffle

-- A protocol that lays these codes, one to a card, for so many players with this deck.
pub record Lays (p : Protocol) (players : ℕ) (codes : List ℕ) (deck : DeckMeaning) : Type 0 where
  pub cards_are : p.script.cards ≡ length codes
  pub players_are : p.script.players ≡ players
  pub codes_are : p.script.codes ≡ codes
  pub deck_is : p.deck ≡ deck
