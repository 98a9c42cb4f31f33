-- The machine: one step at a time through a script, with a deck and a bank of shuffles; its runs, their dealings and
-- traces, and how many lists of draws lead somewhere.
use Rattle.std.specs.Prelude.{ℕ, zero, suc, ◌+◌, ◌-◌, ◌^◌, Bool, true, false, cond, ◌&&◌, ◌||◌, List, [], ◌∷◌, ◌++◌, map, Some, None, Option, ◌==◌, nat_lt, slice_index, slice_index_or}
use Rattle.cards.specs.Lists.{table}
use Rattle.cards.specs.Shuffles.{ShuffleMeaning, LawfulShuffle, image}
use Rattle.cards.specs.Decks.{DeckMeaning, LawfulDeck, bit, bit_reading}
use Rattle.cards.specs.Rows.{carried, packed}
use Rattle.cards.specs.declared.reading.Reading.{Reading}
use Rattle.cards.specs.declared.reading.Reading.TheVariants.{Neither}
use Rattle.script.specs.Model.{Branch, Action, permute, shuffle, turn, committed, opened, none, Script, LawfulScript}

-- A script with the deck that it is played with, and a bank that has a shuffle for each line.
pub record Protocol : Type 0 where
  pub script : Script
  pub deck : DeckMeaning
  pub bank : ℕ → ShuffleMeaning

pub record LawfulProtocol (p : Protocol) : Type 0 where
  pub script : LawfulScript p.script
  pub deck : LawfulDeck p.deck
  pub bank : (l : ℕ) → LawfulShuffle (p.bank l)

-- the inputs are the numbers below 2^k, for k players
abbrev pub inputs : Protocol → ℕ
inputs p = 2 ^ p.script.players

-- the value of the function at an input
abbrev pub value : Protocol → ℕ → ℕ
value p b = bit p.script.function b

abbrev pub action_at : Protocol → ℕ → Action
action_at p l = p.script.action l

-- The row of cards that the layout lays for an input: in each slot the card of its code, and card 0 beyond the row.
abbrev pub laid : Protocol → ℕ → List ℕ
laid p b = table 12 (λ s. cond (nat_lt s p.script.cards) (p.deck.card (slice_index p.script.codes s) b) 0)

-- What a bank's shuffle means at a line for n cards and with so many draws. One of another width or total moves
-- nothing there, and the line keeps its own total.
abbrev pub fitted : ℕ → ℕ → ShuffleMeaning → ShuffleMeaning
fitted n total m =
    cond (m.width == n && m.total == total) m (record { width = n; total = total; sends = λ d s. s })

-- How a line moves cards: so many draws, where each sends the card in a slot, and the line after it.
pub record Mixing : Type 0 where
  pub total : ℕ
  pub sends : ℕ → ℕ → ℕ
  pub next : ℕ

-- a permute is a mixing of one draw
abbrev pub permuting : List ℕ → ℕ → Mixing
permuting images next = record { total = 1; sends = λ d s. slice_index_or images s s; next = next }

abbrev pub shuffling : Protocol → ℕ → ℕ → ℕ → Mixing
shuffling p l total next =
    record { total = total; sends = image (fitted p.script.cards total (p.bank l)); next = next }

-- the cards after a draw
abbrev pub moved : Mixing → ℕ → List ℕ → List ℕ
moved m d cards = carried (m.sends d) cards

-- the card at a place, which counts from 1
abbrev pub card_at : List ℕ → ℕ → ℕ
card_at cards place = slice_index cards (place - 1)

-- the marks of the cards at these places; a card shows itself as its mark
abbrev pub marks_at : List ℕ → List ℕ → List ℕ
marks_at places cards = map (card_at cards) places

-- two lists of numbers are the same
abbrev pub same : List ℕ → List ℕ → Bool
same [] [] = true
same [] (y ∷ ys) = false
same (x ∷ xs) [] = false
same (x ∷ xs) (y ∷ ys) = x == y && same xs ys

-- the target of the branch with these marks
abbrev pub target : List ℕ → List Branch → Option ℕ
target marks [] = None
target marks (b ∷ bs) = cond (same b.marks marks) (Some b.target) (target marks bs)

-- A trace: the marks that each turn so far has shown, one list for each turn.
abbrev pub Trace : Type 0
Trace = List (List ℕ)

abbrev pub same_trace : Trace → Trace → Bool
same_trace [] [] = true
same_trace [] (y ∷ ys) = false
same_trace (x ∷ xs) [] = false
same_trace (x ∷ xs) (y ∷ ys) = same x y && same_trace xs ys

-- A run under way: the line it stands at, the cards, the trace so far and the draws that are left.
pub record Run : Type 0 where
  pub line : ℕ
  pub cards : List ℕ
  pub trace : Trace
  pub draws : List ℕ

-- One step of the machine at an action; none where the run stops. A permute takes no draw. A shuffle takes the next
-- one, which must be there and below the total. A turn adds its marks to the trace and goes to the branch with these
-- marks, which must be there. A result ends the run.
abbrev pub drawn : Mixing → Run → List ℕ → Option Run
drawn m r [] = None
drawn m r (d ∷ ds) =
    cond (nat_lt d m.total)
    (Some (record { line = m.next; cards = moved m d r.cards; trace = r.trace; draws = ds }))
    None

abbrev pub branched : Run → List ℕ → Option ℕ → Option Run
branched r marks None = None
branched r marks (Some l) =
    Some (record { line = l; cards = r.cards; trace = r.trace ++ marks ∷ []; draws = r.draws })

abbrev pub acted : Protocol → Run → Action → Option Run
acted p r (permute images next) =
    Some (record { line = next; cards = moved (permuting images next) 0 r.cards; trace = r.trace; draws = r.draws })
acted p r (shuffle total next) = drawn (shuffling p r.line total next) r r.draws
acted p r (turn places branches) =
    branched r (marks_at places r.cards) (target (marks_at places r.cards) branches)
acted p r (committed left right) = None
acted p r (opened value) = None
acted p r none = None

abbrev pub advance : Protocol → Run → Option Run
advance p r = acted p r (action_at p r.line)

-- the run after so many steps; none where it stops before
abbrev pub and_then : Option Run → (Run → Option Run) → Option Run
and_then None f = None
and_then (Some r) f = f r

unfoldable pub advanced : ℕ → Protocol → Run → Option Run
advanced zero p r = Some r
advanced (suc k) p r = and_then (advance p r) (advanced k p)

-- The run for an input begins at line 2 with the cards laid for it and an empty trace.
abbrev pub begun : Protocol → ℕ → List ℕ → Run
begun p b draws = record { line = 2; cards = laid p b; trace = []; draws = draws }

abbrev pub spent : List ℕ → Bool
spent [] = true
spent (d ∷ ds) = false

-- Within so many steps the run passes a state that meets the test and has used up its draws. Lines ascend, so a run
-- makes fewer steps than the script has lines.
abbrev pub or_passes : Option Run → (Run → Bool) → Bool
or_passes None f = false
or_passes (Some r) f = f r

unfoldable pub passes : ℕ → Protocol → (Run → Bool) → Run → Bool
passes zero p test r = false
passes (suc k) p test r = (spent r.draws && test r) || or_passes (advance p r) (passes k p test)

abbrev pub is_result : Action → Bool
is_result (permute images next) = false
is_result (shuffle total next) = false
is_result (turn places branches) = false
is_result (committed left right) = true
is_result (opened value) = true
is_result none = false

-- What the cards give at a result line: a committed result reads its two places in the order written, an open one
-- gives its bit. Elsewhere there is nothing to read.
abbrev pub given : DeckMeaning → List ℕ → Action → Reading
given deck cards (permute images next) = Neither
given deck cards (shuffle total next) = Neither
given deck cards (turn places branches) = Neither
given deck cards (committed left right) = deck.reads (card_at cards left) (card_at cards right)
given deck cards (opened value) = bit_reading value
given deck cards none = Neither

-- the run stands at a result line with this trace
abbrev pub ends_with : Protocol → Trace → Run → Bool
ends_with p trace r = is_result (action_at p r.line) && same_trace r.trace trace

-- the run stands at this line with this trace
abbrev pub stands : ℕ → Trace → Run → Bool
stands l trace r = r.line == l && same_trace r.trace trace

-- and has the cards with this sequence number
abbrev pub holds : Protocol → ℕ → Trace → ℕ → Run → Bool
holds p l trace sequence r = stands l trace r && packed p.script.cards r.cards == sequence

-- A dealing of an input with a trace: draws that the run uses up in reaching a result line with that trace. A list of
-- draws reaches a line with a trace if the run passes it having used up exactly that list.
abbrev pub run_passes : Protocol → ℕ → (Run → Bool) → List ℕ → Bool
run_passes p b test draws = passes p.script.lines p test (begun p b draws)

abbrev pub is_dealing : Protocol → ℕ → Trace → List ℕ → Bool
is_dealing p b trace draws = run_passes p b (ends_with p trace) draws

-- the sum of f d over the numbers d below n
unfoldable pub sum_below : ℕ → (ℕ → ℕ) → ℕ
sum_below zero f = 0
sum_below (suc n) f = sum_below n f + f n

abbrev pub one_if : Bool → ℕ
one_if b = cond b 1 0

-- how many lists of m numbers below n pass the test
unfoldable pub count : ℕ → ℕ → (List ℕ → Bool) → ℕ
count n zero test = one_if (test [])
count n (suc m) test = sum_below n (λ d. count n m (λ ds. test (d ∷ ds)))

-- how many lists of at most m numbers below n pass the test
unfoldable pub counts : ℕ → ℕ → (List ℕ → Bool) → ℕ
counts n zero test = count n zero test
counts n (suc m) test = counts n m test + count n (suc m) test

-- How many lists of draws bring the machine, under an input, to a state that meets the test. A draw is below a total,
-- and so below 65,536; a run takes fewer draws than the script has lines.
unfoldable pub ways : Protocol → ℕ → (Run → Bool) → ℕ
ways p b test = counts 65536 p.script.lines (run_passes p b test)

-- the number of dealings of an input with a trace
abbrev pub dealings : Protocol → ℕ → Trace → ℕ
dealings p b trace = ways p b (ends_with p trace)

-- the number of draw lists that reach a line with a trace
abbrev pub reached : Protocol → ℕ → ℕ → Trace → ℕ
reached p b l trace = ways p b (stands l trace)

-- and those that reach it with the cards of a sequence number
abbrev pub reached_with : Protocol → ℕ → ℕ → Trace → ℕ → ℕ
reached_with p b l trace sequence = ways p b (holds p l trace sequence)
