-- A row of twelve cards as a list: the card in slot s stands at index s. In a row of n cards the slots from n on hold
-- card 0.
use Rattle.std.specs.Prelude.{◌≡◌, ℕ, suc, ◌-◌, ◌/◌, ◌%◌, ◌^◌, ◌<◌, ◌≤◌, cond, List, [], ◌∷◌, length, take, nat_lt, slice_index, slice_set}
use Rattle.std.specs.Int.Digits.{number_from_digits}
use Rattle.cards.specs.Lists.{table}

-- What stands in the row `after` once the cards of a row, the first of them in slot s, have gone one by one where `to`
-- sends their slots. A slot past the row's end is none.
abbrev pub settled : (ℕ → ℕ) → ℕ → List ℕ → List ℕ → List ℕ
settled to s [] after = after
settled to s (c ∷ cs) after = settled to (suc s) cs (slice_set after (to s) c)

-- The row after each card has moved: the card in slot s goes to slot `to s`.
abbrev pub carried : (ℕ → ℕ) → List ℕ → List ℕ
carried to row = settled to 0 row row

-- `to` moves the first n slots among themselves, no two to one
pub record OneToOne (n : ℕ) (to : ℕ → ℕ) : Type 0 where
  pub below : (s : ℕ) → s < n → to s < n
  pub apart : (s t : ℕ) → s < n → t < n → to s ≡ to t → s ≡ t

-- The card in each slot of the row is found at the slot's image.
abbrev pub Found : (ℕ → ℕ) → List ℕ → List ℕ → Type 0
Found to row after = (s : ℕ) → s < length row → slice_index after (to s) ≡ slice_index row s

-- A row of n cards of 0 to 15, with card 0 beyond place n.
pub record Dealt (n : ℕ) (row : List ℕ) : Type 0 where
  pub long : length row ≡ 12
  pub cards : (s : ℕ) → s < n → slice_index row s < 16
  pub beyond : (s : ℕ) → n ≤ s → slice_index row s ≡ 0

-- The sequence number of a row of n cards: base 16, place 1 highest.
abbrev pub packed : ℕ → List ℕ → ℕ
packed n row = number_from_digits 16 (take n row)

-- The row of n cards with a sequence number: its n lowest digits of base 16, and card 0 beyond place n.
abbrev pub unpacked : ℕ → ℕ → List ℕ
unpacked n x = table 12 (λ s. cond (nat_lt s n) ((x / 16 ^ (n - 1 - s)) % 16) 0)
