-- The shuffle that a script's own frame means, line by line.
use Rattle.std.specs.Prelude.{ℕ, List}
use Rattle.cards.specs.Shuffles as shuffles
use Rattle.cards.specs.Shuffles.{ShuffleMeaning, still, places, piles, entries_of}
use Rattle.format.specs.Parts.{Parts, parts, permute, cut, explicit, turn, committed, opened, none}
use Rattle.sheet.specs.Lines.{frame}
use Rattle.sheet.specs.Scripts.{head}

-- A cut, or a shuffle by entries, under piles under the listed places. Another frame has the shuffle of one slot.
abbrev pub shuffle_of : ℕ → Parts → ShuffleMeaning
shuffle_of n (permute ps) = still
shuffle_of n (cut m q ps) = places n ps (piles m (shuffles.cut q))
shuffle_of n (explicit m q ps es) = places n ps (piles m (shuffles.explicit q (entries_of q es)))
shuffle_of n (turn ps bs) = still
shuffle_of n (committed left right) = still
shuffle_of n (opened value) = still
shuffle_of n none = still

abbrev pub own_shuffle : List ℕ → ℕ → ShuffleMeaning
own_shuffle sheet line = shuffle_of (head sheet).cards (parts (frame sheet line))
