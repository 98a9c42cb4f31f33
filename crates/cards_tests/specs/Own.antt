-- A shuffle and a deck of this crate's own making.
use Rattle.std.specs.Prelude.{◌-◌, ◌/◌, ◌%◌, false, cond, ◌==◌}
use Rattle.cards.specs.Shuffles.{ShuffleMeaning}
use Rattle.cards.specs.Decks.{DeckMeaning, bit, player_code, ordered}

-- Two draws of three slots: the first leaves them, and the second turns them round.
abbrev pub turned : ShuffleMeaning
turned = record { width = 3; total = 2; sends = λ d s. cond (d == 0) s (2 - s) }

-- A deck in which bit 0 is heart, club: the left card is 1 for bit 0, and the higher card first reads 0.
abbrev pub reversed : DeckMeaning
reversed = record {
  lies = λ k code. player_code k code;
  repeats = λ k code. false;
  card = λ code input.
      cond (player_code 3 code)
      (cond (code % 2 == 0) (1 - bit input ((code - 16) / 2)) (bit input ((code - 16) / 2)))
      0;
  reads = λ u v. ordered v u;
}
