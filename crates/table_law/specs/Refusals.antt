-- What is never refused on the table of a certified protocol.
use Rattle.std.specs.Prelude.{ℕ, List, ◌≢◌}
use Rattle.std.specs.List.{ContainsAt as Has}
use Rattle.script.specs.Faults.{Fault}
use Rattle.protocol.specs.Machine.{Protocol, LawfulProtocol}
use Rattle.protocol.specs.Tree.{Certificate, Certified}
use Rattle.protocol.specs.Table.{Call, refused, session, empty_table}

-- Where a script is certified with a deck and a bank, and these are lent to the calls of its table, no answer of any
-- list of calls is refusal 31: each turn that is reached has a branch for the marks shown, and each pair at a result
-- that is reached reads 0 or 1.
abbrev pub NoRefusal31 : Type 0
NoRefusal31 =
    (p : Protocol) → LawfulProtocol p → (bench : ℕ) (c : Certificate) → Certified p bench c
    → (bytes : List ℕ) (calls : List Call) (f : Fault) → Has (session p empty_table bytes calls).answers (refused f)
    → f.number ≢ 31
