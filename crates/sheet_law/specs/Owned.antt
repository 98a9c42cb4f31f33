-- The shuffle that a script's own line means is of all its cards and of the line's total.
use Rattle.std.specs.Prelude.{◌≡◌, ℕ, true, List, None}
use Rattle.cards.specs.Shuffles as shuffles
use Rattle.cards.specs.Shuffles.{cut_fits, entries_fit, entries_of, piles, piles_fit, places_fit}
use Rattle.script.specs.Model.{shuffle}
use Rattle.format.specs.Parts.{Parts, parts, permute, cut, explicit, turn, committed, opened, none}
use Rattle.sheet.specs.Lines.{frame}
use Rattle.sheet.specs.Scripts.{head, action}
use Rattle.sheet.specs.OwnShuffles.{own_shuffle}
use Rattle.sheet.specs.Verdicts.{verdict}

-- Each layer that a frame writes fits what is below it: the cut or the entries, the piles, the places of a row of n.
abbrev pub LayersFit : ℕ → Parts → Type 0
LayersFit n (permute ps) = Unit {0}
LayersFit n (cut m q ps) =
    (cut_fits q ≡ true)
    × ((piles_fit m (shuffles.cut q) ≡ true) × (places_fit n ps (piles m (shuffles.cut q)) ≡ true))
LayersFit n (explicit m q ps es) =
    (entries_fit q (entries_of q es) ≡ true)
    × ((piles_fit m (shuffles.explicit q (entries_of q es)) ≡ true)
    × (places_fit n ps (piles m (shuffles.explicit q (entries_of q es))) ≡ true))
LayersFit n (turn ps bs) = Unit {0}
LayersFit n (committed left right) = Unit {0}
LayersFit n (opened value) = Unit {0}
LayersFit n none = Unit {0}

-- The own shuffle of a line has the script's number of cards as its width, so many draws, and layers that fit.
pub record OwnShuffle (sheet : List ℕ) (line draws : ℕ) : Type 0 where
  pub width : (own_shuffle sheet line).width ≡ (head sheet).cards
  pub total : (own_shuffle sheet line).total ≡ draws
  pub layers : LayersFit (head sheet).cards (parts (frame sheet line))

-- So it is in every sheet that passes, at every line with a shuffle, for the total that the line names.
abbrev pub OwnShufflesFit : Type 0
OwnShufflesFit = (sheet : List ℕ) → verdict sheet ≡ None
    → (line total next : ℕ) → action sheet line ≡ shuffle total next → OwnShuffle sheet line total
