-- The bytes of each kind of frame, rule by rule.
use Rattle.std.specs.Prelude.{ℕ, zero, suc, ◌-◌, ◌*◌, ◌^◌, Bool, true, false, cond, not, ◌&&◌, ◌||◌, leb, List, [], ◌∷◌, ◌++◌, length, ◌==◌, nat_eq, nat_le, nat_lt, slice_index}
use Rattle.cards.specs.Lists.{member}
use Rattle.cards.specs.Decks.{DeckMeaning}
use Rattle.heads.specs.declared.head.Head.{Head}
use Rattle.heads.specs.declared.head.DeckKind.{DeckKind}
use Rattle.heads.specs.Heads.{deck_meaning, lowest_mark, highest_mark}
use Rattle.format.specs.Form.{Form, ends, byte, listed}

abbrev pub from_to : ℕ → ℕ → ℕ → Bool
from_to low high b = nat_le low b && nat_le b high

-- Rules of a list's next byte, over those before it.
-- from low to high, and not yet in the list
abbrev pub distinct_rule : ℕ → ℕ → List ℕ → ℕ → Bool
distinct_rule low high before b = from_to low high b && not (member b before)

-- from 1 to high, and above the last in the list
abbrev pub ascending_rule : ℕ → List ℕ → ℕ → Bool
ascending_rule high before b = nat_lt (slice_index before (length before - 1)) b && nat_le b high

-- A code that may lie; one that may not repeat is not yet in the list.
abbrev pub code_rule : DeckMeaning → ℕ → List ℕ → ℕ → Bool
code_rule deck k before code = deck.lies k code && (deck.repeats k code || not (member code before))

-- Dictionary order: x stands strictly before y.
abbrev pub precedes : List ℕ → List ℕ → Bool
precedes [] [] = false
precedes [] (y ∷ ys) = true
precedes (x ∷ xs) [] = false
precedes (x ∷ xs) (y ∷ ys) = nat_lt x y || (x == y && precedes xs ys)

-- A mark of the deck; the last of t marks also brings the branch after the one before it, whose marks are `previous`.
abbrev pub mark_rule : DeckKind → ℕ → List ℕ → List ℕ → ℕ → Bool
mark_rule deck t previous before b =
    from_to (lowest_mark deck) (highest_mark deck) b
    && (nat_lt (suc (length before)) t || precedes previous (before ++ b ∷ []))

-- Line 0: kind 01, deck, cards n, players k with 2k ≤ n, function below 2^(2^k), output.
abbrev pub head_rule : List ℕ → ℕ → Bool
head_rule before b =
    cond (length before == 0) (b == 0x01)
    (cond (length before == 1) (nat_le b 1)
    (cond (length before == 2) (from_to 2 12 b)
    (cond (length before == 3) (from_to 1 3 b && nat_le (2 * b) (slice_index before 2))
    (cond (length before == 4) (nat_lt b (2 ^ 2 ^ slice_index before 3))
    (nat_le b 1)))))

abbrev pub head_form : Form
head_form = listed 6 head_rule [] (λ _. ends)

-- Line 1: kind 02 and n codes.
abbrev pub layout_form : Head → Form
layout_form h =
    byte (nat_eq 0x02) (λ _. listed h.cards (code_rule (deck_meaning h.deck) h.players) [] (λ _. ends))

-- n distinct places
abbrev pub permute_form : ℕ → Form
permute_form n = listed n (distinct_rule 1 n) [] (λ _. ends)

-- m, q, then q × m distinct places, and what comes after them for q slots
abbrev pub piled_form : ℕ → (ℕ → Form) → Form
piled_form n next =
    byte (from_to 1 12) (λ m.
    byte (λ q. from_to 2 12 q && nat_le (q * m) n) (λ q.
    listed (q * m) (distinct_rule 1 n) [] (λ _. next q)))

abbrev pub cut_form : ℕ → Form
cut_form n = piled_form n (λ _. ends)

-- an entry: a weight, and q distinct slots
abbrev pub entry_form : ℕ → (List ℕ → Form) → Form
entry_form q next = byte (from_to 1 255) (λ _. listed q (distinct_rule 0 (q - 1)) [] next)

abbrev pub entries_form : ℕ → ℕ → Form
entries_form zero q = ends
entries_form (suc count) q = entry_form q (λ _. entries_form count q)

abbrev pub explicit_form : ℕ → Form
explicit_form n = piled_form n (λ q. byte (from_to 1 8) (λ count. entries_form count q))

-- a branch: t marks, and a target from line `low` to line `high`
abbrev pub branch_form : DeckKind → ℕ → ℕ → ℕ → List ℕ → (List ℕ → Form) → Form
branch_form deck t low high previous next =
    listed t (mark_rule deck t previous) [] (λ marks. byte (from_to low high) (λ _. next marks))

abbrev pub branches_form : DeckKind → ℕ → ℕ → ℕ → ℕ → List ℕ → Form
branches_form deck t low high zero previous = ends
branches_form deck t low high (suc count) previous =
    branch_form deck t low high previous (branches_form deck t low high count)

-- t ascending places, branch count, branches
abbrev pub turn_form : DeckKind → ℕ → ℕ → ℕ → Form
turn_form deck n low high =
    byte (from_to 1 n) (λ t.
    listed t (ascending_rule n) [] (λ _.
    byte (leb 1) (λ count. branches_form deck t low high count [])))

-- two distinct places
abbrev pub committed_form : ℕ → Form
committed_form n = listed 2 (distinct_rule 1 n) [] (λ _. ends)

-- a bit
abbrev pub open_form : Form
open_form = byte (from_to 0 1) (λ _. ends)

-- A kind and what comes after its byte.
pub record Kind : Type 0 where
  pub number : ℕ
  pub form : Form

-- the kinds that may stand at a line of a script of so many lines, from line 2 on
abbrev pub kinds : Head → ℕ → ℕ → List Kind
kinds h lines line =
    record { number = 0x10; form = permute_form h.cards }
    ∷ record { number = 0x11; form = cut_form h.cards }
    ∷ record { number = 0x13; form = explicit_form h.cards }
    ∷ record { number = 0x20; form = turn_form h.deck h.cards (suc line) (lines - 1) }
    ∷ record { number = 0x30; form = committed_form h.cards }
    ∷ record { number = 0x31; form = open_form }
    ∷ []

abbrev pub known : List Kind → ℕ → Bool
known [] b = false
known (k ∷ ks) b = k.number == b || known ks b

abbrev pub form_after : List Kind → ℕ → Form
form_after [] b = ends
form_after (k ∷ ks) b = cond (k.number == b) k.form (form_after ks b)

abbrev pub one_of : List Kind → Form
one_of ks = byte (known ks) (form_after ks)

-- the form of the frame at a line
abbrev pub form_at : Head → ℕ → ℕ → Form
form_at h lines zero = head_form
form_at h lines (suc zero) = layout_form h
form_at h lines (suc (suc line)) = one_of (kinds h lines (suc (suc line)))
