-- A deck of this crate's own making.
use Rattle.std.specs.Prelude.{◌+◌, ◌-◌, ◌/◌, ◌%◌, false, cond, ◌&&◌, ◌==◌}
use Rattle.cards.specs.Decks.{DeckMeaning, bit, player_code}
use Rattle.cards.specs.declared.reading.Reading.TheVariants.{Zero, One, Neither}

-- Bit 0 is the cards 2, 3; all other pairs than these two read as neither.
abbrev pub raised : DeckMeaning
raised = record {
  lies = λ k code. player_code k code;
  repeats = λ k code. false;
  card = λ code input.
      cond (player_code 3 code)
      (cond (code % 2 == 0) (2 + bit input ((code - 16) / 2)) (3 - bit input ((code - 16) / 2)))
      2;
  reads = λ u v. cond (u == 2 && v == 3) Zero (cond (u == 3 && v == 2) One Neither);
}
