-- The whole promise, of one protocol.
use Rattle.std.specs.Prelude.{ℕ, Bool, List, ◌≢◌}
use Rattle.certifier.specs.Certification.{Certification}
use Rattle.protocol.specs.Machine.{Protocol, Run}
use Rattle.protocol.specs.Promises.{Counts, OneState, Follows, Undistinguished, UndistinguishedBeforeFinish, FinishesRight}
use Rattle.protocol.specs.Table.{Call, empty, empty_table, session, granted}
use Rattle.protocol.specs.Tree.{Certificate, Certified}

pub record WholePromise (p : Protocol) : Type 0 where
  -- What a certificate says, on a bench of any size: node by node, classes by dealings of every trace, and that it is
  -- certified exactly when it is correct and secret.
  pub certification : (bench : ℕ) → Certification p bench
  -- What is counted: exactly the draw lists on which the run comes to what is asked with no draw left; none is left out.
  pub counts : (b : ℕ) (test : Run → Bool) (draws : List ℕ) → Counts p b test draws
  -- A state of the tree is fixed by its weights.
  pub one_state : OneState
  -- After any list of calls the table stands where the machine does with the draws granted, and its record is the
  -- machine's trace.
  pub machine : (bytes : List ℕ) (calls : List Call) → ((session p empty_table bytes calls).table.phase ≢ empty)
      → (x : ℕ) × (r : Run) × Follows p bytes (granted p empty_table bytes calls) (session p empty_table bytes calls) x r
  -- Where it is certified, on a bench of some size, two inputs of one class and one value get any given answers and final
  -- record from equally many fillings of the draws, over any list of calls, granted or refused.
  pub undistinguished : (bench : ℕ) (c : Certificate) → Certified p bench c → Undistinguished p c
  -- Where no finish is granted, one class is enough.
  pub before_finish : (bench : ℕ) (c : Certificate) → Certified p bench c → UndistinguishedBeforeFinish p c
  -- Each finish that is granted gives the function's value of the input laid.
  pub finishes : (bench : ℕ) (c : Certificate) → Certified p bench c → FinishesRight p
