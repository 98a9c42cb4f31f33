use Rattle.std.proofs.Common.{ℕ, ◌*◌, ◌<◌, ◌≤◌, take}
use Rattle.protocol.specs.States.{total_of}
use Rattle.rows.specs.Views.{rows_view}
use Rattle.rows_tests.proofs.few.Given as goal

abbrev pub invariant-loop-row : goal.invariant-loop-row
invariant-loop-row l = (b : ℕ) → b < 8 → total_of b (rows_view (take l.row-index l.rows)) ≤ 65535 * l.row-index
