-- What a shuffle means, and what the shuffles and layers of the house mean.
use Rattle.std.specs.Prelude.{◌≡◌, ℕ, zero, suc, ◌+◌, ◌-◌, ◌*◌, ◌/◌, ◌%◌, ◌<◌, ◌≤◌, Bool, true, cond, ◌&&◌, List, [], ◌∷◌, length, take, drop, replicate, sum_by, ◌==◌, nat_le, nat_lt, slice_index, slice_index_or}
use Rattle.std.specs.List.{flat_map}
use Rattle.cards.specs.Lists.{member, distinct, position, table}

-- A shuffle of `width` slots has `total` draws, each as likely as the other. Under draw d the card in slot s goes to
-- slot `sends d s`. Only draws below the total and slots below the width are of interest: `image` says the rest.
pub record ShuffleMeaning : Type 0 where
  pub width : ℕ
  pub total : ℕ
  pub sends : ℕ → ℕ → ℕ

-- Each draw is a permutation of the slots 0 to width − 1.
pub record LawfulShuffle (m : ShuffleMeaning) : Type 0 where
  pub some_slot : 1 ≤ m.width
  pub few_slots : m.width ≤ 12
  pub some_draw : 1 ≤ m.total
  pub few_draws : m.total ≤ 65535
  pub inside : (d s : ℕ) → d < m.total → s < m.width → m.sends d s < m.width
  pub one_to_one : (d s t : ℕ) → d < m.total → s < m.width → t < m.width → m.sends d s ≡ m.sends d t → s ≡ t

-- Where the card in slot s goes under draw d. A draw of the total or more, or a slot of the width or more, gets the
-- slot itself back.
abbrev pub image : ShuffleMeaning → ℕ → ℕ → ℕ
image m d s = cond (nat_lt d m.total && nat_lt s m.width) (m.sends d s) s

-- The permutation that draw d picks, as the list of the images of the slots 0 to width − 1; and the list of them all,
-- in the order of the draws. One that stands twice counts twice.
abbrev pub permutation : ShuffleMeaning → ℕ → List ℕ
permutation m d = table m.width (m.sends d)

abbrev pub permutations : ShuffleMeaning → List (List ℕ)
permutations m = table m.total (permutation m)

-- A list is a permutation of the slots 0 to w − 1: w numbers, each below w, none twice.
pub record Permutes (w : ℕ) (p : List ℕ) : Type 0 where
  pub long : length p ≡ w
  pub below : (s : ℕ) → s < w → slice_index p s < w
  pub apart : (s t : ℕ) → s < w → t < w → slice_index p s ≡ slice_index p t → s ≡ t

-- The two readings of a meaning agree: as many permutations as draws, each of the slots, and draw d sends slot s to
-- entry s of permutation number d.
pub record Listed (m : ShuffleMeaning) : Type 0 where
  pub count : length (permutations m) ≡ m.total
  pub each : (d : ℕ) → d < m.total → Permutes m.width (slice_index_or (permutations m) d [])
  pub picks : (d s : ℕ) → d < m.total → s < m.width → image m d s ≡ slice_index_or (slice_index_or (permutations m) d []) s s

-- The shuffle of one slot and one draw. A cut or a list of entries with numbers out of range means this.
abbrev pub still : ShuffleMeaning
still = record { width = 1; total = 1; sends = λ d s. s }

-- A layer that does not fit: the width and total of the shuffle below, and nothing moves.
abbrev pub stopped : ShuffleMeaning → ShuffleMeaning
stopped m = record { width = m.width; total = m.total; sends = λ d s. s }

-- The cut of q slots: under draw d, slot j goes to (j + d) mod q.
abbrev pub cut_fits : ℕ → Bool
cut_fits q = nat_le 1 q && nat_le q 12

abbrev pub cut : ℕ → ShuffleMeaning
cut q = cond (cut_fits q) (record { width = q; total = q; sends = λ d j. (j + d) % q }) still

-- An entry of an explicit shuffle: it takes `weight` draws in a row, and each sends slot s to entry s of `images`.
pub record Entry : Type 0 where
  pub weight : ℕ
  pub images : List ℕ

-- the permutations that the entries list, in order
abbrev pub spelled : List Entry → List (List ℕ)
spelled es = flat_map (λ e. replicate e.weight e.images) es

abbrev pub weights : List Entry → ℕ
weights es = sum_by (λ e. e.weight) es

abbrev pub permutes : ℕ → List ℕ → Bool
permutes q is = length is == q && distinct 0 (q - 1) is

abbrev pub sound_entries : ℕ → List Entry → Bool
sound_entries q [] = true
sound_entries q (e ∷ es) = (nat_le 1 e.weight && permutes q e.images) && sound_entries q es

-- each entry is sound, and there are not too many draws
abbrev pub counted : ℕ → List Entry → Bool
counted q es = sound_entries q es && nat_le (weights es) 65535

abbrev pub entries_fit : ℕ → List Entry → Bool
entries_fit q es = (nat_le 1 q && nat_le q 12) && (counted q es && nat_le 1 (weights es))

abbrev pub explicit : ℕ → List Entry → ShuffleMeaning
explicit q es =
    cond (entries_fit q es)
    (record { width = q; total = weights es; sends = λ d s. slice_index_or (slice_index_or (spelled es) d []) s s })
    still

-- The entries that bytes write: of each entry its weight, and then its q images.
-- (The first number bounds the entries; a list of b bytes has at most b.)
abbrev pub entries_in : ℕ → ℕ → List ℕ → List Entry
entries_in zero q bs = []
entries_in (suc n) q [] = []
entries_in (suc n) q (w ∷ bs) = record { weight = w; images = take q bs } ∷ entries_in n q (drop q bs)

abbrev pub entries_of : ℕ → List ℕ → List Entry
entries_of q bs = entries_in (length bs) q bs

-- Piles of m over a shuffle: each of its slots holds a pile of m cards, which move together.
abbrev pub piles_fit : ℕ → ShuffleMeaning → Bool
piles_fit m below = nat_le 1 m && nat_le (below.width * m) 12

abbrev pub piles : ℕ → ShuffleMeaning → ShuffleMeaning
piles m below =
    cond (piles_fit m below)
    (record {
      width = below.width * m;
      total = below.total;
      sends = λ d s. image below d (s / m) * m + s % m;
    })
    (stopped below)

-- A shuffle of some places of a row of n: place p is slot p − 1, the place at position r of the list goes to the
-- place at the position where the shuffle below sends r, and the other places stay.
abbrev pub places_fit : ℕ → List ℕ → ShuffleMeaning → Bool
places_fit n ps below = (nat_le 1 n && nat_le n 12) && (length ps == below.width && distinct 1 n ps)

abbrev pub places : ℕ → List ℕ → ShuffleMeaning → ShuffleMeaning
places n ps below =
    cond (places_fit n ps below)
    (record {
      width = n;
      total = below.total;
      sends = λ d s.
          cond (member (s + 1) ps) (slice_index ps (image below d (position (s + 1) ps)) - 1) s;
    })
    (stopped below)

-- A bank has a shuffle for each line. This one has the shuffle m at one line, and is as another bank elsewhere.
abbrev pub with_at : ℕ → ShuffleMeaning → (ℕ → ShuffleMeaning) → ℕ → ShuffleMeaning
with_at l m bank line = cond (line == l) m (bank line)

-- Two worked images: a cut of five sends slot 3 to 2 under draw 4, and a cut of two under piles of 2 sends slot 1 to 3
-- under draw 1.
abbrev pub WorkedImages : Type 0
WorkedImages = (image (cut 5) 4 3 ≡ 2) × (image (piles 2 (cut 2)) 1 1 ≡ 3)
