-- The worked protocols, computed.
use Rattle.std.proofs.Common.{refl}
use Rattle.protocol.specs.Tree.{certify, scan, events, subtree}
use Rattle.protocol.specs.Table.{session}
use Rattle.protocol.specs.Samples.{Worked}

pub worked : Worked
unfolding certify scan events subtree session
worked =
    record {
      xor_certified = refl;
      xor_nine_rows = refl;
      uneven_leaks = refl;
      last_line_wrong = refl;
      no_branch = refl;
      trick_certified = refl;
      rearranged_certified = refl;
      rearranged_played = refl;
      refused_in_order = refl;
      refused_when_ended = refl;
      turn_without_branch = refl;
      pair_reads_neither = refl;
      neither_wrong = refl;
      permuted = refl;
      xor_played = refl;
    }
