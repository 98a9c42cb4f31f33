-- The parts of a frame of line 2 or later.
use Rattle.std.specs.Prelude.{ℕ, ◌*◌, cond, List, [], ◌∷◌, take, drop, ◌==◌, slice_index}

pub data Parts : Type 0 where
  permute : (places : List ℕ) → Parts
  cut : (piles slots : ℕ) → (places : List ℕ) → Parts
  -- the entries one after another, as bytes
  explicit : (piles slots : ℕ) → (places : List ℕ) → (entries : List ℕ) → Parts
  -- the branches one after another, as bytes
  turn : (places : List ℕ) → (branches : List ℕ) → Parts
  committed : (left right : ℕ) → Parts
  opened : (value : ℕ) → Parts
  none : Parts

-- the parts that follow the kind
abbrev pub cut_parts : List ℕ → Parts
cut_parts rest = cut (slice_index rest 0) (slice_index rest 1) (drop 2 rest)

abbrev pub explicit_parts : List ℕ → Parts
explicit_parts rest =
    explicit (slice_index rest 0) (slice_index rest 1)
    (take (slice_index rest 1 * slice_index rest 0) (drop 2 rest))
    (drop 1 (drop (slice_index rest 1 * slice_index rest 0) (drop 2 rest)))

abbrev pub turn_parts : List ℕ → Parts
turn_parts rest = turn (take (slice_index rest 0) (drop 1 rest)) (drop 1 (drop (slice_index rest 0) (drop 1 rest)))

abbrev pub committed_parts : List ℕ → Parts
committed_parts rest = committed (slice_index rest 0) (slice_index rest 1)

abbrev pub open_parts : List ℕ → Parts
open_parts rest = opened (slice_index rest 0)

abbrev pub parts : List ℕ → Parts
parts [] = none
parts (kind ∷ rest) =
    cond (kind == 0x10) (permute rest)
    (cond (kind == 0x11) (cut_parts rest)
    (cond (kind == 0x13) (explicit_parts rest)
    (cond (kind == 0x20) (turn_parts rest)
    (cond (kind == 0x30) (committed_parts rest)
    (cond (kind == 0x31) (open_parts rest) none)))))
