-- The walk over the nodes of a checked script's tree, with a deck and a bank of shuffles.
use Rattle.std.specs.Prelude.{◌≡◌, ℕ, suc, ◌+◌, ◌<◌, ◌≤◌, Bool, cond, ◌&&◌, List, [], ◌∷◌, length, take, Some, None, Ok, Err, Option, Result, MatchOption, ◌==◌, slice_index}
use Rattle.cards.specs.Decks.{DeckMeaning}
use Rattle.cards.specs.Shuffles.{ShuffleMeaning}
use Rattle.script.specs.Model.{LawfulScript}
use Rattle.script.specs.Faults.{Fault}
use Rattle.protocol.specs.Machine.{Protocol, Trace, inputs, action_at, is_result}
use Rattle.protocol.specs.States.{Row, total_of, totals}
use Rattle.protocol.specs.Tree as tree
use Rattle.protocol.specs.Table.{bytes_of}
use Rattle.protocol.specs.Tree.{Node, Event, made, offence, noted, divided, bench_rows, subtree, events_below}
use Rattle.rows.specs.declared.row.Row as code
use Rattle.rows.specs.Views.{rows_view, Small}
use Rattle.sheet.specs.declared.states.CheckedScript.{CheckedScript}
use Rattle.sheet.specs.Laws.{SmallProducts}
use Rattle.sheet.specs.Products.{Path}
use Rattle.sheet.specs.Sheets.{script}
use Rattle.tree.specs.declared.certificate.Certificate.{Certificate}
use Rattle.tree.specs.declared.certificate.Classes.{Classes}
use Rattle.tree.specs.declared.fault.TreeFault.{TreeFault}
use Rattle.tree.specs.declared.walk.Walk.{Walk}
use Rattle.tree.specs.Certificates.{class_list, view}
use Rattle.tree.specs.Faults.{shown}

-- the protocol of a checked script with a deck and a bank
abbrev pub playing : CheckedScript → DeckMeaning → (ℕ → ShuffleMeaning) → Protocol
playing s deck bank = record { script = script s; deck = deck; bank = bank }

abbrev pub node_at : (number line need : ℕ) → List Row → Trace → Node
node_at number line need rows trace =
    record { number = number; line = line; need = need; rows = rows; trace = trace }

-- two inputs of the same class and total, which are not divided
abbrev pub together : List ℕ → List ℕ → ℕ → ℕ → Bool
together classes totals b c = slice_index classes c == slice_index classes b && slice_index totals c == slice_index totals b

-- A line at which a node may stand.
pub record Standing (s : CheckedScript) (line : ℕ) : Type 0 where
  pub lawful : LawfulScript (script s)
  pub from_two : 2 ≤ line
  pub there : line < (script s).lines

-- The classes after a node at this line with these totals, for every state that has them.
abbrev pub Divided : CheckedScript → ℕ → List ℕ → Classes → Classes → Type 0
Divided s line sums before after =
    (deck : DeckMeaning) (bank : ℕ → ShuffleMeaning) (rows : List Row) → sums ≡ totals rows
    → take (inputs (playing s deck bank)) (class_list after)
    ≡ cond (is_result (action_at (playing s deck bank) line))
    (divided (playing s deck bank) rows (take (inputs (playing s deck bank)) (class_list before)))
    (take (inputs (playing s deck bank)) (class_list before))

-- A node as it is handed on: of fewer than 512, at a line where one may stand, with the totals of its rows.
pub record Handed (s : CheckedScript) (number line : ℕ) (rows : List Row) (sums : List ℕ) : Type 0 where
  pub standing : Standing s line
  pub few : number < 512
  pub small : Small (λ b. total_of b rows)
  pub totals_are : sums ≡ totals rows

-- A visitor was handed the node with these parts. It is not told the bank and the path need, and of the trace only the
-- marks, one after the other.
abbrev pub Visited : {V : Type 0} → (Protocol → Node → V → V → Type 0) → CheckedScript → DeckMeaning → (number line : ℕ) → List Row → List ℕ → V → V → Type 0
Visited visits s deck number line rows marks before after =
    (bank : ℕ → ShuffleMeaning) (need : ℕ) (trace : Trace) → bytes_of trace ≡ marks
    → visits (playing s deck bank) (node_at number line need rows trace) before after

-- A certificate notes the node that it is handed, if that is the next one.
abbrev pub notes : Protocol → Node → Certificate → Certificate → Type 0
notes p u before after = before.nodes ≡ u.number → view (inputs p) after ≡ noted p u (view (inputs p) before)

-- What a walk over these events comes to, with so many nodes before them: the first event that offends is the refusal,
-- and a node that does not is visited and counted. The answer is the count at the end.
pub data Walked {V : Type 0} (visits : Node → V → V → Type 0) (bench : ℕ) : List Event → ℕ → V → V → Result ℕ Fault → Type 0 where
  over : (count : ℕ) (v : V) → Walked visits bench [] count v v (Ok count)
  refused : (e : Event) (es : List Event) (count : ℕ) (v : V) (f : Fault) → offence bench e ≡ Some f
      → Walked visits bench (e ∷ es) count v v (Err f)
  visited : (u : Node) (es : List Event) (before between after : V) (answer : Result ℕ Fault)
      → offence bench (made u) ≡ None → visits u before between → Walked visits bench es (suc u.number) between after answer
      → Walked visits bench (made u ∷ es) u.number before after answer

-- A node may stand at this line with these rows: a path leads to the line, and no total exceeds the product of the
-- totals on it.
pub record Arrived (s : CheckedScript) (line : ℕ) (rows : List Row) : Type 0 where
  pub standing : Standing s line
  pub small_products : SmallProducts (script s)
  pub product : ℕ
  pub path : Path (script s).action line product
  pub bounded : (b : ℕ) → b < 8 → total_of b rows ≤ product

-- A node's child with some of its rows may stand at this line, to which the node's turn has a branch.
pub record Reached (s : CheckedScript) (line : ℕ) (rows : List Row) : Type 0 where
  pub standing : Standing s line
  pub arrives : (some : List Row) → ((b : ℕ) → total_of b some ≤ total_of b rows) → Arrived s line some

-- What a part of a walk keeps: the script with its deck and its bank, the visitor's place, and the marks shown so far.
pub record Kept {V D B : Type 0} (before after : Walk V D B) : Type 0 where
  pub script : after.script.now ≡ before.script.now
  pub deck : after.deck.now ≡ before.deck.now
  pub bank : after.bank.now ≡ before.bank.now
  pub visitor : after.visitor.ghost_name ≡ before.visitor.ghost_name
  pub trace : after.trace.items ≡ before.trace.items

-- A state for this line stands in the first rows of the room, as many as are answered; none where it has no room.
pub record Entered (s : CheckedScript) (line : ℕ) (answer : Option ℕ) (room : List code.Row) : Type 0 where
  pub standing : Standing s line
  pub fits : (m : ℕ) → answer ≡ Some m → m ≤ length room
  pub arrived : (m : ℕ) → answer ≡ Some m → Arrived s line (rows_view (take m room))

abbrev pub Held : Option ℕ → List Row → List code.Row → Type 0
Held answer rows room =
    MatchOption answer (length room < length rows) (λ m. (m ≡ length rows) × (rows_view (take m room) ≡ rows))

-- What a walk and the certificate answer, as the definition has it.
abbrev pub faulted : {A : Type 0} → Result A TreeFault → Result A Fault
faulted (Ok x) = Ok x
faulted (Err f) = Err (shown f)

-- the answer of a walk that only refuses, with the count of nodes that it has left
abbrev pub counted : ℕ → Result Unit TreeFault → Result ℕ TreeFault
counted nodes (Ok x) = Ok nodes
counted nodes (Err f) = Err f

abbrev pub answer_view : ℕ → Result Certificate TreeFault → Result tree.Certificate Fault
answer_view inputs (Ok c) = Ok (view inputs c)
answer_view inputs (Err f) = Err (shown f)

-- The node at this line with these rows is made and all below it, with the rest of the bench left for those; its path
-- need above it, its trace with these marks, the bench and the depth may be any that fit. There are so many nodes
-- before it, and the visitor is first the one and then the other.
abbrev pub Grown : {V : Type 0} → (Protocol → Node → V → V → Type 0) → Protocol → ℕ → List Row → ℕ → List ℕ → ℕ → V → V → Result ℕ TreeFault → Type 0
Grown visits p line rows rest marks count before after answer =
    (bench depth need : ℕ) (trace : Trace)
    → p.script.lines ≤ line + depth → (need + length rows) + rest ≡ bench_rows bench → bytes_of trace ≡ marks
    → Walked (visits p) bench (subtree depth p (node_at count line (need + length rows) rows trace)) count before after (faulted answer)

-- The same where it is not yet known that the rows have room.
abbrev pub Made : {V : Type 0} → (Protocol → Node → V → V → Type 0) → Protocol → ℕ → List Row → ℕ → List ℕ → ℕ → V → V → Result ℕ TreeFault → Type 0
Made visits p line rows room marks count before after answer =
    (bench depth need : ℕ) (trace : Trace)
    → p.script.lines ≤ line + depth → need + room ≡ bench_rows bench → bytes_of trace ≡ marks
    → Walked (visits p) bench (subtree depth p (node_at count line (need + length rows) rows trace)) count before after (faulted answer)

-- All below the node is made, which is the last one counted.
abbrev pub Below : {V : Type 0} → (Protocol → Node → V → V → Type 0) → Protocol → ℕ → List Row → ℕ → List ℕ → ℕ → V → V → Result ℕ TreeFault → Type 0
Below visits p line rows rest marks count before after answer =
    (bench depth need number : ℕ) (trace : Trace)
    → p.script.lines ≤ suc line + depth → need + rest ≡ bench_rows bench → bytes_of trace ≡ marks → count ≡ suc number
    → Walked (visits p) bench (events_below (subtree depth p) p (node_at number line need rows trace) (action_at p line)) count before after (faulted answer)
