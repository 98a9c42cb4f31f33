-- The script that a sheet writes.
use Rattle.std.specs.Prelude.{ℕ, zero, suc, pred, cond, List, [], ◌∷◌, map, length, take, drop, nat_le, slice_index}
use Rattle.cards.specs.Shuffles.{weights, entries_of}
use Rattle.script.specs.Model as model
use Rattle.heads.specs.declared.head.Head.{Head}
use Rattle.heads.specs.declared.head.Output.{Output}
use Rattle.heads.specs.declared.head.Output.TheVariants.{Committed, Open}
use Rattle.heads.specs.Heads.{head_of}
use Rattle.format.specs.Parts.{Parts, parts, permute, cut, explicit, turn, committed, opened, none}
use Rattle.sheet.specs.Lines.{frame, line_count}

-- The branches that bytes write: of each branch its t marks, and then its target.
-- (The first number bounds the branches; a list of b bytes has at most b.)
abbrev pub branches_in : ℕ → ℕ → List ℕ → List model.Branch
branches_in zero t bytes = []
branches_in (suc n) t bytes =
    cond (nat_le (length bytes) t) []
    (record { marks = take t bytes; target = slice_index bytes t } ∷ branches_in n t (drop (suc t) bytes))

abbrev pub branches_of : ℕ → List ℕ → List model.Branch
branches_of t bytes = branches_in (length bytes) t bytes

-- what a frame at a line does
abbrev pub action_of : ℕ → Parts → model.Action
action_of line (permute places) = model.permute (map pred places) (suc line)
action_of line (cut piles slots places) = model.shuffle slots (suc line)
action_of line (explicit piles slots places entries) = model.shuffle (weights (entries_of slots entries)) (suc line)
action_of line (turn places branches) = model.turn places (branches_of (length places) branches)
action_of line (committed left right) = model.committed left right
action_of line (opened value) = model.opened value
action_of line none = model.none

abbrev pub output_of : Output → model.Output
output_of Committed = model.committed_output
output_of Open = model.open_output

abbrev pub head : List ℕ → Head
head sheet = head_of (frame sheet 0)

-- the codes that are laid at the places 1 to n
abbrev pub codes : List ℕ → List ℕ
codes sheet = drop 1 (frame sheet 1)

abbrev pub action : List ℕ → ℕ → model.Action
action sheet line = action_of line (parts (frame sheet line))

abbrev pub script_of : List ℕ → model.Script
script_of sheet = record {
  cards = (head sheet).cards;
  players = (head sheet).players;
  function = (head sheet).function;
  output = output_of (head sheet).output;
  codes = codes sheet;
  lines = line_count sheet;
  action = action sheet;
}
