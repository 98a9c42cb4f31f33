-- What the shuffle of a frame means, as the code holds it.
use Rattle.cards.specs.Shuffles as shuffles
use Rattle.cards.specs.Shuffles.{ShuffleMeaning, LawfulShuffle, still, places, piles, entries_of}
use Rattle.shuffles.specs.Lawful.{lawful_still}
use Rattle.format.specs.Parts.{cut, explicit}
use Rattle.sheet.specs.Owning.{lawful_own}
use Rattle.sheet.specs.declared.bank.OwnShuffle.{OwnShuffle}
use Rattle.sheet.specs.declared.bank.OwnShuffle.TheVariants.{Cut, Explicit, Still}

abbrev pub meaning : OwnShuffle → ShuffleMeaning
meaning (Cut p) = places p.cards p.places.now (piles p.below.size (shuffles.cut p.below.below.slots))
meaning (Explicit p) =
    places p.cards p.places.now (piles p.below.size (shuffles.explicit p.below.below.slots (entries_of p.below.below.slots p.below.below.entries.now)))
meaning Still = still

pub lawful_meaning : (s : OwnShuffle) → LawfulShuffle (meaning s)
lawful_meaning (Cut p) = lawful_own p.cards (cut p.below.size p.below.below.slots p.places.now)
lawful_meaning (Explicit p) = lawful_own p.cards (explicit p.below.size p.below.below.slots p.places.now p.below.below.entries.now)
lawful_meaning Still = lawful_still
