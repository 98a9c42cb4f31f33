-- What a writing names: what each of its lines does, and the shuffle that the line means.
use Rattle.std.specs.Prelude.{◌≡◌, ℕ, zero, suc, pred, ◌+◌, ◌-◌, ◌*◌, ◌%◌, ◌<◌, ◌≤◌, false, cond, List, [], ◌∷◌, map, length, nat_lt, slice_index, slice_index_or}
use Rattle.cards.specs.Lists.{member}
use Rattle.cards.specs.Shuffles as shuffles
use Rattle.cards.specs.Shuffles.{ShuffleMeaning, Entry, image, still, weights, piles, places}
use Rattle.script.specs.Model as model
use Rattle.writing.specs.Writing.{Line, permute, cut, explicit, turn, committed, opened}
use Rattle.sheet.specs.Scripts.{head, output_of, script_of}
use Rattle.sheet.specs.OwnShuffles.{own_shuffle}
use Rattle.sheet_law.specs.Whole.{Writing, frames, writing_bytes, KeepsRules}

-- what a line does
abbrev pub line_action : ℕ → Line → model.Action
line_action line (permute ps) = model.permute (map pred ps) (suc line)
line_action line (cut m q ps) = model.shuffle q (suc line)
line_action line (explicit m q ps es) = model.shuffle (weights es) (suc line)
line_action line (turn ps bs) = model.turn ps bs
line_action line (committed left right) = model.committed left right
line_action line (opened value) = model.opened value

-- the shuffle of a row of n that a line means
abbrev pub line_shuffle : ℕ → Line → ShuffleMeaning
line_shuffle n (permute ps) = still
line_shuffle n (cut m q ps) = places n ps (piles m (shuffles.cut q))
line_shuffle n (explicit m q ps es) = places n ps (piles m (shuffles.explicit q es))
line_shuffle n (turn ps bs) = still
line_shuffle n (committed left right) = still
line_shuffle n (opened value) = still

-- the same at each line of a writing: nothing at the head, at the layout and past the end
abbrev pub action_named : Writing → ℕ → model.Action
action_named w zero = model.none
action_named w (suc zero) = model.none
action_named w (suc (suc i)) = slice_index_or (map (line_action (suc (suc i))) w.lines) i model.none

abbrev pub shuffle_named : Writing → ℕ → ShuffleMeaning
shuffle_named w zero = still
shuffle_named w (suc zero) = still
shuffle_named w (suc (suc i)) = slice_index_or (map (line_shuffle w.head.cards) w.lines) i still

abbrev pub script_named : Writing → model.Script
script_named w = record {
  cards = w.head.cards;
  players = w.head.players;
  function = w.head.function;
  output = output_of w.head.output;
  codes = w.codes;
  lines = length (frames w);
  action = action_named w;
}

-- Two scripts say the same.
pub record SameScript (s t : model.Script) : Type 0 where
  pub cards : s.cards ≡ t.cards
  pub players : s.players ≡ t.players
  pub function : s.function ≡ t.function
  pub output : s.output ≡ t.output
  pub codes : s.codes ≡ t.codes
  pub lines : s.lines ≡ t.lines
  pub acts : (line : ℕ) → s.action line ≡ t.action line

-- the place to which the card at place p goes under draw d
abbrev pub goes_to : ShuffleMeaning → ℕ → ℕ → ℕ
goes_to s d p = suc (image s d (p - 1))

-- A shuffle of a row of n with so many draws: of the listed places each m in a row are a pile, and under draw d the card
-- at place number i of pile j goes to place number i of pile `onto d j`. The cards at the other places stay.
pub record MovesPiles (n m q : ℕ) (ps : List ℕ) (draws : ℕ) (onto : ℕ → ℕ → ℕ) (s : ShuffleMeaning) : Type 0 where
  pub width : s.width ≡ n
  pub total : s.total ≡ draws
  pub listed : (d j i : ℕ) → d < draws → j < q → i < m
      → goes_to s d (slice_index ps (j * m + i)) ≡ slice_index ps (onto d j * m + i)
  pub others : (d p : ℕ) → d < draws → 1 ≤ p → p ≤ n → member p ps ≡ false → goes_to s d p ≡ p

-- The images of the entry to which draw d falls: one entry after another takes as many draws as it weighs.
abbrev pub drawn : List Entry → ℕ → List ℕ
drawn [] d = []
drawn (e ∷ es) d = cond (nat_lt d e.weight) e.images (drawn es (d - e.weight))

-- The shuffle is the one that a line of a script of n cards says: under draw d a cut moves each pile d piles on, round
-- the end, and entries move each pile as the entry says to which d falls. At another line there is nothing to shuffle.
abbrev pub Says : ℕ → Line → ShuffleMeaning → Type 0
Says n (permute ps) s = s ≡ still
Says n (cut m q ps) s = MovesPiles n m q ps q (λ d j. (j + d) % q) s
Says n (explicit m q ps es) s =
    MovesPiles n m q ps (weights es) (λ d j. slice_index (drawn es d) j) s
Says n (turn ps bs) s = s ≡ still
Says n (committed left right) s = s ≡ still
Says n (opened value) s = s ≡ still

-- What is read from the bytes of a writing is what it names.
pub record ReadAsNamed (w : Writing) : Type 0 where
  pub headed : head (writing_bytes w) ≡ w.head
  pub script : SameScript (script_of (writing_bytes w)) (script_named w)
  pub shuffles : (line : ℕ) → own_shuffle (writing_bytes w) line ≡ shuffle_named w line
  pub says : (i : ℕ) → i < length w.lines
      → Says w.head.cards (slice_index_or w.lines i (opened 0)) (own_shuffle (writing_bytes w) (suc (suc i)))

abbrev pub NamingLaw : Type 0
NamingLaw = (w : Writing) → KeepsRules w → ReadAsNamed w
