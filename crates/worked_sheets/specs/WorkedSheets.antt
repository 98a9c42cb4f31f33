-- Worked sheets, from their bytes on: what check, the certificate and a table say of them.
use Rattle.std.specs.Prelude.{◌≡◌, ℕ, List, [], ◌∷◌, length, Some, None, Ok, Err, Result}
use Rattle.std.specs.List.{flat_map}
use Rattle.cards.specs.Shuffles.{WorkedImages}
use Rattle.script.specs.Faults.{Fault}
use Rattle.protocol.specs.Machine.{Protocol}
use Rattle.protocol.specs.Tree.{certify, tree_fault, Certificate}
use Rattle.protocol.specs.Table.{session, empty_table, lay, step, turn_up, finish, began, stepped, turned, finished}
use Rattle.protocol.specs.Samples.{table_refusal}
use Rattle.heads.specs.Heads.{deck_meaning}
use Rattle.sheet.specs.Scripts.{head, script_of}
use Rattle.sheet.specs.OwnShuffles.{own_shuffle}
use Rattle.sheet.specs.Verdicts.{verdict}

-- the bytes of a sheet with these frames: each with its length before it
abbrev pub sheet_of : List (List ℕ) → List ℕ
sheet_of frames = flat_map (λ f. length f ∷ f) frames

-- the protocol that a sheet writes, with the deck that its head names and the shuffles of its own frames
abbrev pub played : List ℕ → Protocol
played sheet =
    record { script = script_of sheet; deck = deck_meaning (head sheet).deck; bank = own_shuffle sheet }

-- Exclusive or with four cards (Mizuki and Sone, 2009), with a shuffle, a turn and a last line of one's choice.
abbrev pub xor_lines : List ℕ → List ℕ → List ℕ → List ℕ
xor_lines shuffle turn last =
    sheet_of ((0x01 ∷ 0x00 ∷ 0x04 ∷ 0x02 ∷ 0x06 ∷ 0x00 ∷ [])
    ∷ (0x02 ∷ 0x10 ∷ 0x11 ∷ 0x12 ∷ 0x13 ∷ [])
    ∷ shuffle
    ∷ turn
    ∷ (0x30 ∷ 0x03 ∷ 0x04 ∷ [])
    ∷ last
    ∷ [])

abbrev pub even_cut : List ℕ
even_cut = 0x11 ∷ 0x02 ∷ 0x02 ∷ 0x01 ∷ 0x03 ∷ 0x02 ∷ 0x04 ∷ []

abbrev pub uneven_swap : List ℕ
uneven_swap =
    0x13 ∷ 0x02 ∷ 0x02 ∷ 0x01 ∷ 0x03 ∷ 0x02 ∷ 0x04 ∷ 0x02 ∷ 0x01 ∷ 0x00 ∷ 0x01 ∷ 0x02 ∷ 0x01 ∷ 0x00 ∷ []

abbrev pub both_turns : List ℕ
both_turns = 0x20 ∷ 0x02 ∷ 0x01 ∷ 0x02 ∷ 0x02 ∷ 0x00 ∷ 0x01 ∷ 0x04 ∷ 0x01 ∷ 0x00 ∷ 0x05 ∷ []

abbrev pub one_turn : List ℕ
one_turn = 0x20 ∷ 0x02 ∷ 0x01 ∷ 0x02 ∷ 0x01 ∷ 0x00 ∷ 0x01 ∷ 0x04 ∷ []

abbrev pub xor : List ℕ
xor = xor_lines even_cut both_turns (0x30 ∷ 0x04 ∷ 0x03 ∷ [])

abbrev pub uneven : List ℕ
uneven = xor_lines uneven_swap both_turns (0x30 ∷ 0x04 ∷ 0x03 ∷ [])

abbrev pub same_last : List ℕ
same_last = xor_lines even_cut both_turns (0x30 ∷ 0x03 ∷ 0x04 ∷ [])

abbrev pub one_branch : List ℕ
one_branch = xor_lines even_cut one_turn (0x30 ∷ 0x04 ∷ 0x03 ∷ [])

-- The five-card trick (den Boer, 1989): branches with the clubs adjacent in the circle lead to line 5.
abbrev pub trick : List ℕ
trick =
    sheet_of ((0x01 ∷ 0x00 ∷ 0x05 ∷ 0x02 ∷ 0x08 ∷ 0x01 ∷ [])
    ∷ (0x02 ∷ 0x11 ∷ 0x10 ∷ 0x01 ∷ 0x12 ∷ 0x13 ∷ [])
    ∷ (0x11 ∷ 0x01 ∷ 0x05 ∷ 0x01 ∷ 0x02 ∷ 0x03 ∷ 0x04 ∷ 0x05 ∷ [])
    ∷ (0x20 ∷ 0x05 ∷ 0x01 ∷ 0x02 ∷ 0x03 ∷ 0x04 ∷ 0x05 ∷ 0x0A
    ∷ 0 ∷ 0 ∷ 1 ∷ 1 ∷ 1 ∷ 5
    ∷ 0 ∷ 1 ∷ 0 ∷ 1 ∷ 1 ∷ 4
    ∷ 0 ∷ 1 ∷ 1 ∷ 0 ∷ 1 ∷ 4
    ∷ 0 ∷ 1 ∷ 1 ∷ 1 ∷ 0 ∷ 5
    ∷ 1 ∷ 0 ∷ 0 ∷ 1 ∷ 1 ∷ 5
    ∷ 1 ∷ 0 ∷ 1 ∷ 0 ∷ 1 ∷ 4
    ∷ 1 ∷ 0 ∷ 1 ∷ 1 ∷ 0 ∷ 4
    ∷ 1 ∷ 1 ∷ 0 ∷ 0 ∷ 1 ∷ 5
    ∷ 1 ∷ 1 ∷ 0 ∷ 1 ∷ 0 ∷ 4
    ∷ 1 ∷ 1 ∷ 1 ∷ 0 ∷ 0 ∷ 5
    ∷ [])
    ∷ (0x31 ∷ 0x00 ∷ [])
    ∷ (0x31 ∷ 0x01 ∷ [])
    ∷ [])

-- the nodes of a sheet's tree, with a bench of a hundred rows
abbrev pub count_in : Result Certificate Fault → ℕ
count_in (Ok c) = c.count
count_in (Err f) = 0

abbrev pub nodes_of : List ℕ → ℕ
nodes_of sheet = count_in (certify (played sheet) 100)

pub record WorkedSheets : Type 0 where
  pub xor_passes : verdict xor ≡ None
  pub uneven_passes : verdict uneven ≡ None
  pub same_last_passes : verdict same_last ≡ None
  pub one_branch_passes : verdict one_branch ≡ None
  pub trick_passes : verdict trick ≡ None
  pub xor_certified : certify (played xor) 10 ≡ Ok (record { count = 4; wrong = None; leaking = None; classes = 0 ∷ 0 ∷ 0 ∷ 0 ∷ [] })
  pub xor_nine_rows : certify (played xor) 9 ≡ Err (tree_fault 21 4 2)
  pub uneven_leaks : certify (played uneven) 10 ≡ Ok (record { count = 4; wrong = None; leaking = Some 2; classes = 0 ∷ 1 ∷ 0 ∷ 1 ∷ [] })
  pub same_last_wrong : certify (played same_last) 10 ≡ Ok (record { count = 4; wrong = Some 3; leaking = None; classes = 0 ∷ 0 ∷ 0 ∷ 0 ∷ [] })
  pub one_branch_refused : certify (played one_branch) 10 ≡ Err (tree_fault 20 3 1)
  pub trick_certified : certify (played trick) 100 ≡ Ok (record { count = 12; wrong = None; leaking = None; classes = 0 ∷ 0 ∷ 0 ∷ 3 ∷ [] })
  pub images : WorkedImages
  pub xor_table : (session (played xor) empty_table (0 ∷ 0 ∷ []) (lay 1 ∷ step 2 ∷ step 1 ∷ turn_up ∷ finish ∷ [])).answers ≡ began 2 ∷ table_refusal 29 2 ∷ stepped 3 ∷ turned 4 2 ∷ finished 1 ∷ []
  pub xor_record : (session (played xor) empty_table (7 ∷ 7 ∷ 7 ∷ []) (lay 1 ∷ step 1 ∷ turn_up ∷ finish ∷ [])).bytes ≡ 0 ∷ 1 ∷ 7 ∷ []
