-- What a certificate says of the machine's runs, and what it is for a script to be certified.
use Rattle.std.specs.Prelude.{◌≡◌, ℕ, ◌<◌, true, ◌↔◌, Ok}
use Rattle.std.specs.List.{AllByRecursion}
use Rattle.cards.specs.Decks.{DeckMeaning}
use Rattle.cards.specs.Shuffles.{ShuffleMeaning}
use Rattle.protocol.specs.Machine.{Protocol, LawfulProtocol, inputs}
use Rattle.protocol.specs.Promises.{Lines, ReadOff, Counted, Classed, Correct, Secret}
use Rattle.protocol.specs.Tree.{Certificate, Certified, nodes, certify, faultless}
use Rattle.sheet.specs.declared.states.CheckedScript.{CheckedScript}
use Rattle.tree.specs.Walks.{playing}

-- Of a protocol and a bench of so many rows: each line makes of a state what its rule says; nodes are numbered as they
-- are made, the tree is refused by its first event that offends, and the certificate of a built one has the number of
-- nodes, the first wrong and the first that leaks; weights and totals count draw lists, node by node; classes are by
-- dealings of every trace; and it is certified exactly when it is correct and secret.
pub record Certification (p : Protocol) (bench : ℕ) : Type 0 where
  pub lines : Lines p
  pub read_off : ReadOff p bench
  pub counted : (b : ℕ) → b < inputs p → AllByRecursion (Counted p b) (nodes p)
  pub classed : (c : Certificate) → certify p bench ≡ Ok c → Classed p c
  pub exactly : (c : Certificate) → certify p bench ≡ Ok c → faultless c ≡ true ↔ (Correct p × Secret p)

-- With this deck and this bank the script is certified.
pub record CertifiedWith (s : CheckedScript) (deck : DeckMeaning) (bank : ℕ → ShuffleMeaning) : Type 0 where
  pub lawful : LawfulProtocol (playing s deck bank)
  pub bench : ℕ
  pub certificate : Certificate
  pub certified : Certified (playing s deck bank) bench certificate

-- With some deck and some bank it is.
abbrev pub IsCertified : CheckedScript → Type 0
IsCertified s = ∥ ((deck : DeckMeaning) × (bank : ℕ → ShuffleMeaning) × CertifiedWith s deck bank) ∥₁
