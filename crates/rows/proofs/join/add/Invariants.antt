use Rattle.std.proofs.Common.{◌≡◌, ℕ, ◌+◌, ◌<◌, ◌≤◌, length, get_or}
use Rattle.rows.proofs.join.add.Given as goal

abbrev pub invariant-loop-b : goal.invariant-loop-b
invariant-loop-b l =
    (length l.sums ≡ 8)
    × ((k : ℕ) → k < l.b → get_or l.sums k 0 ≡ get_or l.initial.sums k 0 + get_or l.weights k 0)
    × ((k : ℕ) → l.b ≤ k → get_or l.sums k 0 ≡ get_or l.initial.sums k 0)
