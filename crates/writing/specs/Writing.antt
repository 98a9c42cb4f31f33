-- What a designer writes at a line, how its bytes are written, and the rules that it keeps.
use Rattle.std.specs.Prelude.{◌≡◌, ℕ, suc, ◌+◌, ◌*◌, ◌^◌, ◌<◌, ◌≤◌, true, List, [], ◌∷◌, ◌++◌, length, None, slice_index}
use Rattle.std.specs.List.{flat_map, AllByRecursion}
use Rattle.cards.specs.Lists.{member, distinct}
use Rattle.cards.specs.Shuffles.{Entry, permutes}
use Rattle.script.specs.Model.{Branch}
use Rattle.heads.specs.declared.head.Head.{Head}
use Rattle.heads.specs.declared.head.DeckKind.{DeckKind}
use Rattle.format.specs.Form.{wrong}
use Rattle.heads.specs.Heads.{deck_byte, deck_meaning, output_byte, lowest_mark, highest_mark}
use Rattle.format.specs.Kinds.{precedes, form_at}

-- a line from 2 on
pub data Line : Type 0 where
  permute : (places : List ℕ) → Line
  cut : (piles slots : ℕ) → (places : List ℕ) → Line
  explicit : (piles slots : ℕ) → (places : List ℕ) → (entries : List Entry) → Line
  turn : (places : List ℕ) → (branches : List Branch) → Line
  committed : (left right : ℕ) → Line
  opened : (value : ℕ) → Line

abbrev pub entry_bytes : Entry → List ℕ
entry_bytes e = e.weight ∷ e.images

abbrev pub branch_bytes : Branch → List ℕ
branch_bytes b = b.marks ++ b.target ∷ []

abbrev pub line_bytes : Line → List ℕ
line_bytes (permute places) = 0x10 ∷ places
line_bytes (cut piles slots places) = 0x11 ∷ piles ∷ slots ∷ places
line_bytes (explicit piles slots places entries) =
    0x13 ∷ piles ∷ slots ∷ places ++ length entries ∷ flat_map entry_bytes entries
line_bytes (turn places branches) = 0x20 ∷ length places ∷ places ++ length branches ∷ flat_map branch_bytes branches
line_bytes (committed left right) = 0x30 ∷ left ∷ right ∷ []
line_bytes (opened value) = 0x31 ∷ value ∷ []

abbrev pub head_bytes : Head → List ℕ
head_bytes h =
    0x01 ∷ deck_byte h.deck ∷ h.cards ∷ h.players ∷ h.function ∷ output_byte h.output ∷ []

abbrev pub layout_bytes : List ℕ → List ℕ
layout_bytes codes = 0x02 ∷ codes

-- The rules.
pub record KeepsHead (h : Head) : Type 0 where
  pub some_cards : 2 ≤ h.cards
  pub few_cards : h.cards ≤ 12
  pub some_players : 1 ≤ h.players
  pub few_players : h.players ≤ 3
  pub pairs : 2 * h.players ≤ h.cards
  pub value : h.function < 2 ^ 2 ^ h.players

-- Each code may lie, one that lies twice may repeat, and every code of a player lies.
pub record KeepsLayout (h : Head) (codes : List ℕ) : Type 0 where
  pub all : length codes ≡ h.cards
  pub lie : (i : ℕ) → i < length codes → (deck_meaning h.deck).lies h.players (slice_index codes i) ≡ true
  pub once : (i j : ℕ) → i < j → j < length codes → slice_index codes i ≡ slice_index codes j
      → (deck_meaning h.deck).repeats h.players (slice_index codes j) ≡ true
  pub players : (i : ℕ) → i < 2 * h.players → member (16 + i) codes ≡ true

pub record KeepsEntry (q : ℕ) (e : Entry) : Type 0 where
  pub low : 1 ≤ e.weight
  pub high : e.weight ≤ 255
  pub permuted : permutes q e.images ≡ true

-- m, q and the places of a shuffle of n cards
pub record KeepsPiles (n m q : ℕ) (places : List ℕ) : Type 0 where
  pub some_piles : 1 ≤ m
  pub few_piles : m ≤ 12
  pub some_slots : 2 ≤ q
  pub few_slots : q ≤ 12
  pub inside : q * m ≤ n
  pub long : length places ≡ q * m
  pub apart : distinct 1 n places ≡ true

pub record KeepsBranch (deck : DeckKind) (t lines line : ℕ) (b : Branch) : Type 0 where
  pub long : length b.marks ≡ t
  pub low : (i : ℕ) → i < t → lowest_mark deck ≤ slice_index b.marks i
  pub high : (i : ℕ) → i < t → slice_index b.marks i ≤ highest_mark deck
  pub later : line < b.target
  pub there : b.target < lines

-- the marks of each branch stand strictly after those of the one before it
abbrev pub in_order : List ℕ → List Branch → Type 0
in_order previous [] = Unit {0}
in_order previous (b ∷ bs) = (precedes previous b.marks ≡ true) × in_order b.marks bs

pub record KeepsTurn (deck : DeckKind) (n lines line : ℕ) (places : List ℕ) (branches : List Branch) : Type 0 where
  pub some : 1 ≤ length places
  pub few : length places ≤ n
  pub positive : (i : ℕ) → i < length places → 1 ≤ slice_index places i
  pub inside : (i : ℕ) → i < length places → slice_index places i ≤ n
  pub ascend : (i : ℕ) → suc i < length places → slice_index places i < slice_index places (suc i)
  pub branched : 1 ≤ length branches
  pub each : AllByRecursion (KeepsBranch deck (length places) lines line) branches
  pub ordered : in_order [] branches

abbrev pub KeepsLine : Head → ℕ → ℕ → Line → Type 0
KeepsLine h lines line (permute places) = (length places ≡ h.cards) × (distinct 1 h.cards places ≡ true)
KeepsLine h lines line (cut piles slots places) = KeepsPiles h.cards piles slots places
KeepsLine h lines line (explicit piles slots places entries) =
    KeepsPiles h.cards piles slots places
    × ((1 ≤ length entries) × ((length entries ≤ 8) × AllByRecursion (KeepsEntry slots) entries))
KeepsLine h lines line (turn places branches) = KeepsTurn h.deck h.cards lines line places branches
KeepsLine h lines line (committed left right) = distinct 1 h.cards (left ∷ right ∷ []) ≡ true
KeepsLine h lines line (opened value) = value ≤ 1

-- The frame of a line from 2 on keeps its form exactly when it is the writing of a line that keeps its rules.
pub record LineLaw : Type 0 where
  pub accepts : (h : Head) (lines line : ℕ) → 2 ≤ line → 1 ≤ lines → (x : Line) → KeepsLine h lines line x
      → wrong 0 (form_at h lines line) (line_bytes x) ≡ None
  pub reads : (h : Head) (lines line : ℕ) → 2 ≤ line → 1 ≤ lines → (bytes : List ℕ) → wrong 0 (form_at h lines line) bytes ≡ None
      → (x : Line) × ((line_bytes x ≡ bytes) × KeepsLine h lines line x)
