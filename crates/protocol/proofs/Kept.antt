-- All that is promised of a certified protocol.
use Rattle.protocol.specs.Promises.{Kept}
use Rattle.protocol.proofs.Scan.{faultless_nodes}
use Rattle.protocol.proofs.Classes.{classes}
use Rattle.protocol.proofs.Certified.{correct_from}
use Rattle.protocol.proofs.Calls.{undistinguished, undistinguished_before_finish}
use Rattle.protocol.proofs.Finished.{finishes_right}

pub kept : Kept
kept p ok bench c cert =
    record {
      classes = classes p ok bench c cert.built;
      calls = undistinguished p ok bench c cert;
      before_finish = undistinguished_before_finish p ok bench c cert;
      finish = finishes_right p (correct_from p ok (faultless_nodes p bench c cert.built cert.faultless).right);
    }
