-- What holds of every row in a tree.
use Rattle.std.specs.Prelude.{◌≡◌, ℕ, ◌^◌, ◌<◌, ◌≤◌, List, [], ◌∷◌}
use Rattle.std.specs.List.{AllByRecursion}
use Rattle.protocol.specs.Machine.{Protocol, LawfulProtocol, inputs}
use Rattle.protocol.specs.States.{Row, weight, start_state}
use Rattle.protocol.specs.Tree.{nodes}
use Rattle.protocol.specs.Samples.{xor}

-- A row of n cards has a sequence number below 16^n, and weight 0 under every number that is no input: 2^k and above,
-- for k players.
pub record RowInBounds (p : Protocol) (r : Row) : Type 0 where
  pub sequence : r.sequence < 16 ^ p.script.cards
  pub no_input : (b : ℕ) → inputs p ≤ b → weight b r ≡ 0

-- Every row of every node is in these bounds, from the root down, for every lawful script, deck and bank.
abbrev pub RowsInBounds : Type 0
RowsInBounds =
    (p : Protocol) → LawfulProtocol p → AllByRecursion (λ u. AllByRecursion (RowInBounds p) u.rows) (nodes p)

-- the sequence number of the last row, which is the highest
abbrev pub last_sequence : List Row → ℕ
last_sequence [] = 0
last_sequence (r ∷ []) = r.sequence
last_sequence (r ∷ (s ∷ rows)) = last_sequence (s ∷ rows)

-- the highest sequence number at the start of exclusive or
abbrev pub highest_start : ℕ
highest_start = last_sequence (start_state xor)
