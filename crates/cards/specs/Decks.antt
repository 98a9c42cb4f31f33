-- What a deck means, and what the two decks of the house mean.
use Rattle.std.specs.Prelude.{◌≡◌, ℕ, ◌+◌, ◌-◌, ◌*◌, ◌/◌, ◌%◌, ◌^◌, ◌<◌, Bool, false, cond, Option, Some, None, ◌&&◌, ◌||◌, ◌==◌, nat_le, nat_lt}
use Rattle.cards.specs.declared.reading.Reading.{Reading}
use Rattle.cards.specs.declared.reading.Reading.TheVariants.{Zero, One, Neither}

-- the number of a reading, as its definition in the code shows it
abbrev pub reading_number : Reading → ℕ
reading_number Zero = 0
reading_number One = 1
reading_number Neither = 2

-- what the swapped pair reads
abbrev pub swapped : Reading → Reading
swapped Zero = One
swapped One = Zero
swapped Neither = Neither

-- bit i of a number; it has the weight 2^i
abbrev pub bit : ℕ → ℕ → ℕ
bit b i = (b / 2 ^ i) % 2

abbrev pub bit_reading : ℕ → Reading
bit_reading b = cond (b == 0) Zero One

-- the bit that a reading is, where it is one
abbrev pub reading_bit : Reading → Option ℕ
reading_bit Zero = Some 0
reading_bit One = Some 1
reading_bit Neither = None

-- Which codes may lie and which may repeat in a layout of k players; which card a code is under an input; how a pair
-- of cards reads.
pub record DeckMeaning : Type 0 where
  pub lies : (k code : ℕ) → Bool
  pub repeats : (k code : ℕ) → Bool
  pub card : (code input : ℕ) → ℕ
  pub reads : (left right : ℕ) → Reading

-- the codes of player i's left and right card
abbrev pub left_code : ℕ → ℕ
left_code i = 16 + 2 * i

abbrev pub right_code : ℕ → ℕ
right_code i = 17 + 2 * i

pub record LawfulDeck (m : DeckMeaning) : Type 0 where
  pub sixteen : (code input : ℕ) → m.card code input < 16
  pub equal : (u : ℕ) → m.reads u u ≡ Neither
  pub swaps : (u v : ℕ) → m.reads v u ≡ swapped (m.reads u v)
  pub players : (i input : ℕ) → i < 3 → m.reads (m.card (left_code i) input) (m.card (right_code i) input) ≡ bit_reading (bit input i)

-- a code of one of k players; there are at most three
abbrev pub player_code : ℕ → ℕ → Bool
player_code k code = nat_le 16 code && (nat_lt code 22 && nat_lt code (16 + 2 * k))

-- In both decks a pair reads 0 where its left card is below the right, and 1 where it is above.
abbrev pub ordered : ℕ → ℕ → Reading
ordered u v = cond (nat_lt u v) Zero (cond (nat_lt v u) One Neither)

-- Two-colour: code 0 is club, card 0, and code 1 is heart, card 1. Bit 0 is club, heart. Fixed codes may repeat.
abbrev pub two_colour : DeckMeaning
two_colour = record {
  lies = λ k code. nat_lt code 2 || player_code k code;
  repeats = λ k code. nat_lt code 2;
  card = λ code input.
      cond (player_code 3 code)
      (cond (code % 2 == 0) (bit input ((code - 16) / 2)) (1 - bit input ((code - 16) / 2)))
      (cond (code == 1) 1 0);
  reads = ordered;
}

-- Standard: player i has the cards 2i + 1 and 2i + 2, ascending for bit 0. Codes 1 to 12 are the cards 1 to 12; with k
-- players those from 2k + 1 are fixed, each at most once.
abbrev pub standard : DeckMeaning
standard = record {
  lies = λ k code. (nat_lt (2 * k) code && nat_le code 12) || player_code k code;
  repeats = λ k code. false;
  card = λ code input.
      cond (player_code 3 code)
      (cond (code % 2 == 0)
      (2 * ((code - 16) / 2) + 1 + bit input ((code - 16) / 2))
      (2 * ((code - 16) / 2) + 2 - bit input ((code - 16) / 2)))
      (cond (nat_le code 12) code 0);
  reads = ordered;
}
