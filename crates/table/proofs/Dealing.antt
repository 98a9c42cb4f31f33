-- The cards laid for an input.
use Rattle.std.proofs.Common.{◌≡◌, ℕ, ◌^◌, ◌<◌, cond, ltb, List, length, get_or, Ok, ap, ◌∙◌, min}
use Rattle.std.proofs.Math.Nat.{min-eq_left}
use Rattle.std.proofs.lemmas.Bool.{lt-ltb}
use Rattle.cards.specs.Decks.{DeckMeaning}
use Rattle.cards.specs.Lists.{table}
use Rattle.cards.specs.Shuffles.{ShuffleMeaning}
use Rattle.cards.specs.declared.row.Row.{Row}
use Rattle.heads.specs.declared.head.Head.{Head}
use Rattle.line_parts.proofs.Acting.{lawful}
use Rattle.protocol.specs.Machine.{Protocol, inputs, laid}
use Rattle.protocol.specs.Table as model
use Rattle.protocol.specs.Table.{replied}
use Rattle.sheet.specs.Sheets.{script, script_bytes}
use Rattle.sheet.specs.Scripts.{head}
use Rattle.sheet.specs.declared.states.CheckedScript.{CheckedScript}
use Rattle.table.specs.Views.{tabled, played, reply, Laid, LaidFor}
use Rattle.table.specs.declared.phase.Phase.{Phase}
use Rattle.table.specs.declared.phase.Phase.TheVariants.{Empty, Running}
use Rattle.table.specs.declared.table.Table.{Table}

abbrev laid_from : DeckMeaning → ℕ → ℕ → List ℕ → List ℕ
laid_from deck number n codes = table 12 (λ k. cond (ltb k n) (deck.card (get_or codes k 0) number) 0)

module _ (s : CheckedScript) where
  -- the inputs of a checked script
  pub inputs_are : (h : Head) (count : ℕ) → h ≡ head (script_bytes s) → count ≡ 2 ^ min h.players 3 → count ≡ 2 ^ (script s).players
  inputs_are h count e f =
      f ∙ ap (λ (x : Head). 2 ^ min x.players 3) e ∙ ap (λ (k : ℕ). 2 ^ k) (min-eq_left (lawful s).few_players)

  pub laid_as : (deck : DeckMeaning) (bank : ℕ → ShuffleMeaning) (number : ℕ) (codes row : List ℕ)
      → codes ≡ (script s).codes → row ≡ laid_from deck number (length codes) codes → row ≡ laid (played s deck bank) number
  laid_as deck bank number codes row e h =
      h ∙ ap (λ (cs : List ℕ). laid_from deck number (length cs) cs) e
      ∙ ap (λ (n : ℕ). laid_from deck number n (script s).codes) (lawful s).laid

-- what the model replies to the lay of an input on an empty table
lay_input : (p : Protocol) (ph : Phase) (e : ph ≡ Empty) (l : ℕ) (cs : List ℕ) (w : ℕ) (bytes : List ℕ) (number : ℕ) (row : List ℕ)
    → number < inputs p → row ≡ laid p number
    → replied p (tabled ph l cs w) bytes (model.lay number) ≡ reply (model.began 2) (tabled Running 2 row w) bytes
lay_input p ph e l cs w bytes number row h q = rw (e, lt-ltb number (inputs p) h, q)

pub laid_input : (t : Table) (deck : DeckMeaning) (number : ℕ) (row : Row) → t.at.phase ≡ Empty → LaidFor t.script.script deck number row
    → Laid t deck number (Ok 2) (record { script = t.script; at = record { phase = Running; line = 2; written = t.at.written }; cards = row })
laid_input t deck number row e f bank bytes =
    lay_input (played t.script.script deck bank) t.at.phase e t.at.line t.cards.cards t.at.written bytes number row.cards f.input (f.cards bank)
