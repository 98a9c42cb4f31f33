use Rattle.std.proofs.Common.{◌≡◌, ◌+◌, ◌<◌, length}
use Rattle.cards.specs.Shuffles.{entries_of, sound_entries, weights}
use Rattle.shuffles.proofs.explicit.total_of.Given as goal

abbrev pub invariant-loop-rest : goal.invariant-loop-rest
invariant-loop-rest l =
    (sound_entries l.slots (entries_of l.slots l.rest) ≡ sound_entries l.slots (entries_of l.slots l.entries))
    × (l.total + weights (entries_of l.slots l.rest) ≡ weights (entries_of l.slots l.entries))
    × (l.total < 65536)

abbrev pub decreases-loop-rest : goal.decreases-loop-rest
decreases-loop-rest l = length l.rest
