-- What the bytes of a head mean.
use Rattle.std.specs.Prelude.{ℕ, cond, List, eqb, get_or}
use Rattle.cards.specs.Decks.{DeckMeaning, two_colour, standard}
use Rattle.heads.specs.declared.head.DeckKind.{DeckKind}
use Rattle.heads.specs.declared.head.DeckKind.TheVariants.{TwoColour, Standard}
use Rattle.heads.specs.declared.head.Output.{Output}
use Rattle.heads.specs.declared.head.Output.TheVariants.{Committed, Open}
use Rattle.heads.specs.declared.head.Head.{Head}

-- the byte of a deck, and the deck of a byte
abbrev pub deck_byte : DeckKind → ℕ
deck_byte TwoColour = 0
deck_byte Standard = 1

abbrev pub deck_of_byte : ℕ → DeckKind
deck_of_byte b = cond (eqb b 0) TwoColour Standard

abbrev pub deck_meaning : DeckKind → DeckMeaning
deck_meaning TwoColour = two_colour
deck_meaning Standard = standard

-- the lowest and the highest mark that a card of the deck may show
abbrev pub lowest_mark : DeckKind → ℕ
lowest_mark TwoColour = 0
lowest_mark Standard = 1

abbrev pub highest_mark : DeckKind → ℕ
highest_mark TwoColour = 1
highest_mark Standard = 12

abbrev pub output_byte : Output → ℕ
output_byte Committed = 0
output_byte Open = 1

abbrev pub output_of_byte : ℕ → Output
output_of_byte b = cond (eqb b 0) Committed Open

-- what the frame of a head says: kind, deck, cards, players, function, output
abbrev pub head_of : List ℕ → Head
head_of bytes = record {
  deck = deck_of_byte (get_or bytes 1 0);
  cards = get_or bytes 2 0;
  players = get_or bytes 3 0;
  function = get_or bytes 4 0;
  output = output_of_byte (get_or bytes 5 0);
}
