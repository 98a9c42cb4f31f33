-- The shuffles of a script's own frames are lawful.
use Rattle.std.specs.Prelude.{ℕ}
use Rattle.cards.specs.Shuffles as shuffles
use Rattle.cards.specs.Shuffles.{LawfulShuffle, still, piles, entries_of}
use Rattle.shuffles.specs.Entries.{lawful_explicit}
use Rattle.shuffles.specs.Lawful.{lawful_still, lawful_cut, lawful_piles, lawful_places}
use Rattle.format.specs.Parts.{Parts, permute, cut, explicit, turn, committed, opened, none}
use Rattle.sheet.specs.OwnShuffles.{shuffle_of}

pub lawful_own : (n : ℕ) (p : Parts) → LawfulShuffle (shuffle_of n p)
lawful_own n (permute ps) = lawful_still
lawful_own n (cut m q ps) = lawful_places n ps (piles m (shuffles.cut q)) (lawful_piles m (shuffles.cut q) (lawful_cut q))
lawful_own n (explicit m q ps es) =
    lawful_places n ps (piles m (shuffles.explicit q (entries_of q es)))
    (lawful_piles m (shuffles.explicit q (entries_of q es)) (lawful_explicit q (entries_of q es)))
lawful_own n (turn ps bs) = lawful_still
lawful_own n (committed l r) = lawful_still
lawful_own n (opened v) = lawful_still
lawful_own n none = lawful_still
