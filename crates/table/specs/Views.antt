-- What a table of the code is in the model, and what its calls promise: the answer, the table after the call and every
-- byte of the record are as the model replies.
use Rattle.std.specs.Prelude.{◌≡◌, ℕ, ◌^◌, ◌<◌, List, [], Ok, Err, Result}
use Rattle.cards.specs.Decks.{DeckMeaning}
use Rattle.cards.specs.Shuffles.{ShuffleMeaning}
use Rattle.cards.specs.declared.row.Row.{Row}
use Rattle.protocol.specs.Machine.{Protocol, laid}
use Rattle.protocol.specs.Table as model
use Rattle.protocol.specs.Table.{replied}
use Rattle.sheet.specs.Sheets.{script}
use Rattle.sheet.specs.declared.states.CheckedScript.{CheckedScript}
use Rattle.table.specs.Faults.{shown}
use Rattle.table.specs.Phases.{phase_of}
use Rattle.table.specs.declared.fault.TableFault.{TableFault}
use Rattle.table.specs.declared.phase.Phase.{Phase}
use Rattle.table.specs.declared.phase.Phase.TheVariants.{Empty, Running, Ended}
use Rattle.table.specs.declared.table.Table.{Table}
use Rattle.table.specs.declared.table.Whereabouts.{Whereabouts}

-- the cards that lie: none on an empty table
abbrev pub held : Phase → List ℕ → List ℕ
held Empty cards = []
held Running cards = cards
held Ended cards = cards

abbrev pub tabled : Phase → ℕ → List ℕ → ℕ → model.Table
tabled phase line cards written =
    record { phase = phase_of phase; line = line; cards = held phase cards; written = written }

abbrev pub table_of : Table → model.Table
table_of t = tabled t.at.phase t.at.line t.cards.cards t.at.written

abbrev pub where_of : Whereabouts → model.Whereabouts
where_of w = record { phase = phase_of w.phase; line = w.line; written = w.written }

-- a checked script, played with a deck and a bank of shuffles
abbrev pub played : CheckedScript → DeckMeaning → (ℕ → ShuffleMeaning) → Protocol
played s deck bank = record { script = script s; deck = deck; bank = bank }

-- the answer that a result is
abbrev pub answered : {X : Type 0} → (X → model.Answer) → Result X TableFault → model.Answer
answered f (Ok x) = f x
answered f (Err e) = model.refused (shown e)

-- turn answers a pair: the target line, and the bytes written so far
abbrev pub turned_answer : ℕ × ℕ → model.Answer
turned_answer x = model.turned x.0 x.1

abbrev pub reply : model.Answer → model.Table → List ℕ → model.Reply
reply answer table bytes = record { answer = answer; table = table; bytes = bytes }

-- Lay: with any bank and any record, and the record stays.
abbrev pub Laid : Table → DeckMeaning → ℕ → Result ℕ TableFault → Table → Type 0
Laid t deck number r after =
    (bank : ℕ → ShuffleMeaning) (bytes : List ℕ)
    → replied (played t.script.script deck bank) (table_of t) bytes (model.lay number)
    ≡ reply (answered model.began r) (table_of after) bytes

-- Step: with any deck and any record, and the record stays.
abbrev pub Stepped : Table → (ℕ → ShuffleMeaning) → ℕ → Result ℕ TableFault → Table → Type 0
Stepped t bank draw r after =
    (deck : DeckMeaning) (bytes : List ℕ)
    → replied (played t.script.script deck bank) (table_of t) bytes (model.step draw)
    ≡ reply (answered model.stepped r) (table_of after) bytes

-- Turn: with any deck and any bank.
abbrev pub Turned : Table → List ℕ → Result (ℕ × ℕ) TableFault → Table → List ℕ → Type 0
Turned t bytes r after bytes_after =
    (deck : DeckMeaning) (bank : ℕ → ShuffleMeaning)
    → replied (played t.script.script deck bank) (table_of t) bytes model.turn_up
    ≡ reply (answered turned_answer r) (table_of after) bytes_after

-- Finish: with any bank and any record, and the record stays.
abbrev pub Finished : Table → DeckMeaning → Result ℕ TableFault → Table → Type 0
Finished t deck r after =
    (bank : ℕ → ShuffleMeaning) (bytes : List ℕ)
    → replied (played t.script.script deck bank) (table_of t) bytes model.finish
    ≡ reply (answered model.finished r) (table_of after) bytes

-- Where: with any deck, bank and record. The table and the record stay.
abbrev pub Stands : Table → Whereabouts → Type 0
Stands t w =
    (deck : DeckMeaning) (bank : ℕ → ShuffleMeaning) (bytes : List ℕ)
    → replied (played t.script.script deck bank) (table_of t) bytes model.where_now
    ≡ reply (model.stands_at (where_of w)) (table_of t) bytes

-- A refused call leaves the whole table as it was.
abbrev pub Stays : {X : Type 0} → Result X TableFault → Table → Table → Type 0
Stays (Ok x) before after = Unit {0}
Stays (Err e) before after = after ≡ before

-- the number is an input, and the row is what is laid for it
pub record LaidFor (s : CheckedScript) (deck : DeckMeaning) (number : ℕ) (row : Row) : Type 0 where
  pub input : number < 2 ^ (script s).players
  pub cards : (bank : ℕ → ShuffleMeaning) → row.cards ≡ laid (played s deck bank) number
