-- What comes of certifying a script and making a list of calls on a table opened on it.
use Rattle.std.specs.Prelude.{◌≡◌, ℕ, ◌≤◌, false, List, map, length, Ok, Err, vec_items, Result}
use Rattle.protocol.specs.Machine.{Protocol, inputs}
use Rattle.protocol.specs.Table as model
use Rattle.protocol.specs.Table.{empty_table, session}
use Rattle.protocol.specs.Tree.{Certificate, Certified, certify, faultless}
use Rattle.tree.specs.Certificates.{view}
use Rattle.tree.specs.Faults.{shown}
use Rattle.sessions.specs.Calls.{answer_of}
use Rattle.sessions.specs.declared.fault.PlayFault.{PlayFault}
use Rattle.sessions.specs.declared.fault.PlayFault.TheVariants.{Memory, Unbuilt, Uncertified}
use Rattle.sessions.specs.declared.played.Played.{Played}

-- The calls were made: the script is certified, and every answer and byte is that of the list of calls on an empty
-- table.
pub record CallsPlayed (p : Protocol) (bench : ℕ) (bytes : List ℕ) (calls : List model.Call) (played : Played) (bytes_after : List ℕ) : Type 0 where
  pub certified : Certified p bench (view (inputs p) played.certificate)
  pub answered : map answer_of (vec_items played.answers) ≡ (session p empty_table bytes calls).answers
  pub recorded : bytes_after ≡ (session p empty_table bytes calls).bytes

-- No call was made: for want of memory, where the script is certified and there is a call; or the tree is not built, by
-- this refusal; or it is built, with this certificate, which has a wrong or a leaking node.
abbrev pub NotPlayed : Protocol → ℕ → List model.Call → PlayFault → Type 0
NotPlayed p bench calls Memory = ((c : Certificate) × Certified p bench c) × (1 ≤ length calls)
NotPlayed p bench calls (Unbuilt f) = certify p bench ≡ Err (shown f)
NotPlayed p bench calls (Uncertified c) =
    (certify p bench ≡ Ok (view (inputs p) c)) × (faultless (view (inputs p) c) ≡ false)

abbrev pub Outcome : Protocol → ℕ → List ℕ → List model.Call → Result Played PlayFault → List ℕ → Type 0
Outcome p bench bytes calls (Ok played) after = CallsPlayed p bench bytes calls played after
Outcome p bench bytes calls (Err f) after = NotPlayed p bench calls f × (after ≡ bytes)
