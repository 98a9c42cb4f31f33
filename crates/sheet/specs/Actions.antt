-- What an action of the code means.
use Rattle.std.specs.Prelude.{ℕ, pred, List, [], map, length}
use Rattle.script.specs.Model as model
use Rattle.format.specs.Parts.{Parts, permute, cut, explicit, turn, committed, opened, none}
use Rattle.sheet.specs.Scripts.{branches_of}
use Rattle.sheet.specs.declared.action.Action.{Action}
use Rattle.sheet.specs.declared.action.Action.TheVariants.{Permute, Shuffle, Turn, Committed, Open, Nothing}

abbrev pub shows : Action → model.Action
shows (Permute places next) = model.permute (map pred places.now) next
shows (Shuffle total next) = model.shuffle total next
shows (Turn places branches) = model.turn places.now (branches_of (length places.now) branches.now)
shows (Committed left right) = model.committed left right
shows (Open value) = model.opened value
shows Nothing = model.none

-- the entries of an explicit shuffle, as bytes
abbrev pub written_entries : Parts → List ℕ
written_entries (permute places) = []
written_entries (cut piles slots places) = []
written_entries (explicit piles slots places entries) = entries
written_entries (turn places branches) = []
written_entries (committed left right) = []
written_entries (opened value) = []
written_entries none = []
