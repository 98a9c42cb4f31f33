-- The states of a tree: rows of a card sequence and a weight for each input, and what each kind of line makes of them.
use Rattle.std.specs.Prelude.{◌≡◌, ℕ, zero, suc, ◌+◌, ◌<◌, ◌≤◌, Bool, true, false, cond, not, ◌&&◌, ◌||◌, List, [], ◌∷◌, length, Some, None, sum_by, filter, Option, ◌==◌, nat_lt, slice_index}
use Rattle.std.specs.List.{AllByRecursion}
use Rattle.std.specs.Option.{option_or}
use Rattle.cards.specs.Lists.{table}
use Rattle.cards.specs.Rows.{packed, unpacked}
use Rattle.cards.specs.Decks.{bit_reading, reading_number}
use Rattle.cards.specs.declared.reading.Reading.{Reading}
use Rattle.script.specs.Model.{Action, Output, committed_output, open_output}
use Rattle.protocol.specs.Machine.{Protocol, inputs, value, action_at, laid, Mixing, moved, marks_at, same, is_result, given}

-- A row: the sequence number of a row of cards, and eight weights, that of input b at index b.
pub record Row : Type 0 where
  pub sequence : ℕ
  pub weights : List ℕ

abbrev pub weight : ℕ → Row → ℕ
weight b r = slice_index r.weights b

-- the cards of a row, in a protocol of n cards
abbrev pub cards_of : ℕ → Row → List ℕ
cards_of n r = unpacked n r.sequence

abbrev pub added : List ℕ → List ℕ → List ℕ
added v w = table 8 (λ b. slice_index v b + slice_index w b)

-- A row put into an ascending state: in its place, or its weights added to those of the row with its sequence.
abbrev pub join : Row → List Row → List Row
join r [] = r ∷ []
join r (x ∷ xs) =
    cond (nat_lt r.sequence x.sequence) (r ∷ x ∷ xs)
    (cond (nat_lt x.sequence r.sequence) (x ∷ join r xs)
    (record { sequence = x.sequence; weights = added x.weights r.weights } ∷ xs))

-- The start state: weight 1 under b for the sequence laid for b.
abbrev pub unit_row : Protocol → ℕ → Row
unit_row p b =
    record { sequence = packed p.script.cards (laid p b); weights = table 8 (λ c. cond (c == b) 1 0) }

abbrev pub started : Protocol → ℕ → List Row
started p zero = []
started p (suc b) = join (unit_row p b) (started p b)

abbrev pub start_state : Protocol → List Row
start_state p = started p (inputs p)

-- The state after a mixing: each row goes on, under each draw, with its weights.
abbrev pub row_after : ℕ → Mixing → ℕ → Row → Row
row_after n m d r = record { sequence = packed n (moved m d (cards_of n r)); weights = r.weights }

abbrev pub joined_after : ℕ → Mixing → ℕ → List Row → List Row → List Row
joined_after n m d [] state = state
joined_after n m d (r ∷ rs) state = joined_after n m d rs (join (row_after n m d r) state)

-- (the rows under the first so many draws)
abbrev pub mixed_by : ℕ → Mixing → List Row → ℕ → List Row
mixed_by n m rows zero = []
mixed_by n m rows (suc d) = joined_after n m d rows (mixed_by n m rows d)

abbrev pub mixed : ℕ → Mixing → List Row → List Row
mixed n m rows = mixed_by n m rows m.total

-- dictionary order
abbrev pub before : List ℕ → List ℕ → Bool
before [] [] = false
before [] (y ∷ ys) = true
before (x ∷ xs) [] = false
before (x ∷ xs) (y ∷ ys) = nat_lt x y || (x == y && before xs ys)

-- What a row shows at these places.
abbrev pub shows : ℕ → List ℕ → Row → List ℕ
shows n places r = marks_at places (cards_of n r)

abbrev pub is_shown : ℕ → List ℕ → List ℕ → Row → Bool
is_shown n places marks r = same (shows n places r) marks

-- the least of these marks and of those that the rows show
abbrev pub least_shown : ℕ → List ℕ → List ℕ → List Row → List ℕ
least_shown n places marks [] = marks
least_shown n places marks (r ∷ rs) =
    least_shown n places (cond (before (shows n places r) marks) (shows n places r) marks) rs

-- A child of a turn: marks, and just the rows that show them.
pub record Child : Type 0 where
  pub marks : List ℕ
  pub rows : List Row

-- The children of a turn, in the order of their marks: the rows that show the least marks, and then the children of
-- the other rows. (The first number bounds the children; there are at most as many as rows.)
abbrev pub split : ℕ → ℕ → List ℕ → List Row → List Child
split zero n places rows = []
split (suc k) n places [] = []
split (suc k) n places (r ∷ rs) =
    let least : List ℕ = least_shown n places (shows n places r) rs in
    record { marks = least; rows = filter (is_shown n places least) (r ∷ rs) }
    ∷ split k n places (filter (λ x. not (is_shown n places least x)) (r ∷ rs))

abbrev pub children : ℕ → List ℕ → List Row → List Child
children n places rows = split (length rows) n places rows

-- a node's total under an input
abbrev pub total_of : ℕ → List Row → ℕ
total_of b rows = sum_by (weight b) rows

abbrev pub totals : List Row → List ℕ
totals rows = table 8 (λ b. total_of b rows)

-- Any two inputs must look alike under committed output, and those of equal value under open output.
abbrev pub alike_under : Output → ℕ → ℕ → Bool
alike_under committed_output v w = true
alike_under open_output v w = v == w

abbrev pub must_look_alike : Protocol → ℕ → ℕ → Bool
must_look_alike p b c = alike_under p.script.output (value p b) (value p c)

-- some number below n passes the test
abbrev pub any_below : ℕ → (ℕ → Bool) → Bool
any_below zero test = false
any_below (suc n) test = any_below n test || test n

-- A node leaks if two inputs that must look alike have different totals.
abbrev pub leaks : Protocol → List Row → Bool
leaks p rows =
    any_below (inputs p) (λ b. any_below (inputs p) (λ c. must_look_alike p b c && not (total_of b rows == total_of c rows)))

-- What is wrong at a result: a row and an input under which its weight is positive, where it gives another reading
-- than the function's value.
pub record Wrong : Type 0 where
  pub row : Row
  pub input : ℕ
  pub reading : Reading

abbrev pub same_reading : Reading → Reading → Bool
same_reading r s = reading_number r == reading_number s

abbrev pub errs : Protocol → Reading → Row → ℕ → Bool
errs p reading r b = nat_lt 0 (weight b r) && not (same_reading reading (bit_reading (value p b)))

-- the first of the inputs from b on, k of them, at which the row errs
abbrev pub first_input : Protocol → Reading → Row → ℕ → ℕ → Option Wrong
first_input p reading r b zero = None
first_input p reading r b (suc k) =
    option_or (cond (errs p reading r b) (Some (record { row = r; input = b; reading = reading })) None)
    (first_input p reading r (suc b) k)

-- the first wrong row at a line, and its first wrong input
abbrev pub first_wrong : Protocol → Action → List Row → Option Wrong
first_wrong p action [] = None
first_wrong p action (r ∷ rs) =
    option_or (first_input p (given p.deck (cards_of p.script.cards r) action) r 0 (inputs p))
    (first_wrong p action rs)

abbrev pub wrongness : Protocol → ℕ → List Row → Option Wrong
wrongness p l rows = cond (is_result (action_at p l)) (first_wrong p (action_at p l) rows) None

-- What makes a list of rows the state with given weights.

-- the weight of a sequence under an input: that of the row with the sequence, and 0 where there is none
abbrev pub weight_of : ℕ → ℕ → List Row → ℕ
weight_of b sequence rows = sum_by (λ r. cond (r.sequence == sequence) (weight b r) 0) rows

-- each row's sequence is above this one's, and they ascend
abbrev pub Above : ℕ → List Row → Type 0
Above x [] = Unit
Above x (r ∷ rs) = (x < r.sequence) × Above r.sequence rs

abbrev pub Ascending : List Row → Type 0
Ascending [] = Unit
Ascending (r ∷ rs) = Above r.sequence rs

-- eight weights, and not all of them zero
pub record Weighted (r : Row) : Type 0 where
  pub eight : length r.weights ≡ 8
  pub some : (b : ℕ) × (b < 8) × (1 ≤ weight b r)

-- A state: rows strictly ascend by their sequences, and no row has only zero weights.
pub record State (rows : List Row) : Type 0 where
  pub ascending : Ascending rows
  pub weighted : AllByRecursion Weighted rows
