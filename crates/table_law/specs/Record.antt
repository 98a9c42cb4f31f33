-- A table is written on only after a lay.
use Rattle.std.specs.Prelude.{◌≡◌, ℕ, List, [], ◌∷◌, slice_index, ◌≢◌}
use Rattle.protocol.specs.Machine.{Protocol}
use Rattle.protocol.specs.Table.{running, Table, empty_table, Call, turn_up, finish, Session, session, granted}
use Rattle.protocol.specs.Samples.{xor}

-- the table and the record are as they were
pub record Untouched (t : Table) (bytes : List ℕ) (s : Session) : Type 0 where
  pub stays : s.table ≡ t
  pub kept : s.bytes ≡ bytes

-- On a table that is not running, as an empty one, a list of calls in which no lay is granted leaves the table and the
-- record as they were, whatever the script, the deck, the bank, the record and the calls.
abbrev pub UntouchedWithoutLay : Type 0
UntouchedWithoutLay =
    (p : Protocol) (t : Table) (bytes : List ℕ) (calls : List Call) → (t.phase ≢ running)
    → (granted p t bytes calls).laid ≡ [] → Untouched t bytes (session p t bytes calls)

-- the first byte of a record that holds 9, after a turn and a finish on an empty table of exclusive or
abbrev pub byte_without_lay : ℕ
byte_without_lay = slice_index (session xor empty_table (9 ∷ []) (turn_up ∷ finish ∷ [])).bytes 0
