use Rattle.std.proofs.Common.{◌≡◌, true, [], length, get_or}
use Rattle.cards.specs.Shuffles.{entries_of, sound_entries, spelled}
use Rattle.shuffles.proofs.explicit.image_in.Given as goal

abbrev pub invariant-loop-rest : goal.invariant-loop-rest
invariant-loop-rest l =
    (sound_entries l.slots (entries_of l.slots l.rest) ≡ true)
    × (get_or (spelled (entries_of l.slots l.rest)) l.left [] ≡ get_or (spelled (entries_of l.slots l.entries)) l.draw [])

abbrev pub decreases-loop-rest : goal.decreases-loop-rest
decreases-loop-rest l = length l.rest
