-- The model of a script: what its sheet says, without its bytes. The tree and the table know a script by this alone.
use Rattle.std.specs.Prelude.{◌≡◌, ℕ, ◌<◌, ◌≤◌, List, length}
use Rattle.std.specs.List.{AllByRecursion}
use Rattle.cards.specs.Shuffles.{Permutes}

-- A branch of a turn: the marks that lead to it, in the order of the places turned, and the line it goes to.
pub record Branch : Type 0 where
  pub marks : List ℕ
  pub target : ℕ

-- What a line does. `permute` and `shuffle` go on to the line `next`; a turn goes to the target of a branch; a result
-- ends the run.
pub data Action : Type 0 where
  -- the card in slot s goes to the slot at index s of `images`; there is nothing to draw
  permute : (images : List ℕ) → (next : ℕ) → Action
  -- one of `total` draws; the shuffle itself is asked of a bank, by line
  shuffle : (total : ℕ) → (next : ℕ) → Action
  -- the cards at these places, counted from 1, are turned up, read and turned down again
  turn : (places : List ℕ) → (branches : List Branch) → Action
  -- the result is what the pair of cards at these two places reads
  committed : (left : ℕ) → (right : ℕ) → Action
  -- the result is this bit
  opened : (value : ℕ) → Action
  -- a line with nothing to do: the head, the layout, or no line of the script
  none : Action

-- how the result comes out: as a pair of cards face down, or openly
pub data Output : Type 0 where
  committed_output : Output
  open_output : Output

-- n cards, k players, the function (bit b is its value at input b), the output, the codes laid at the places 1 to n,
-- and the action at each line. A run starts at line 2.
pub record Script : Type 0 where
  pub cards : ℕ
  pub players : ℕ
  pub function : ℕ
  pub output : Output
  pub codes : List ℕ
  pub lines : ℕ
  pub action : ℕ → Action

-- a line that line l may go on to: later than l, and a line of the script
pub record Onward (lines l next : ℕ) : Type 0 where
  pub later : l < next
  pub there : next < lines

pub record LawfulBranch (lines l marks : ℕ) (b : Branch) : Type 0 where
  pub shown : length b.marks ≡ marks
  pub onward : Onward lines l b.target

-- what is true of the action at line l of a script of n cards and so many lines
abbrev pub LawfulAction : (n lines l : ℕ) → Action → Type 0
LawfulAction n lines l (permute images next) = Permutes n images × Onward lines l next
LawfulAction n lines l (shuffle total next) = (1 ≤ total) × ((total ≤ 65535) × Onward lines l next)
LawfulAction n lines l (turn places branches) =
    (1 ≤ length places) × (AllByRecursion (λ p. (1 ≤ p) × (p ≤ n)) places × AllByRecursion (LawfulBranch lines l (length places)) branches)
LawfulAction n lines l (committed left right) = ((1 ≤ left) × (left ≤ n)) × ((1 ≤ right) × (right ≤ n))
LawfulAction n lines l (opened value) = value < 2
LawfulAction n lines l none = ⊥

pub record LawfulScript (s : Script) : Type 0 where
  pub some_cards : 2 ≤ s.cards
  pub few_cards : s.cards ≤ 12
  pub some_players : 1 ≤ s.players
  pub few_players : s.players ≤ 3
  pub laid : length s.codes ≡ s.cards
  pub some_line : 3 ≤ s.lines
  pub few_lines : s.lines ≤ 64
  pub acts : (l : ℕ) → 2 ≤ l → l < s.lines → LawfulAction s.cards s.lines l (s.action l)
