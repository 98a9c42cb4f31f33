-- A checked script with a deck and a bank that keep their laws is a lawful protocol, and what follows from that.
use Rattle.std.proofs.Common.{ℕ}
use Rattle.cards.specs.Decks.{DeckMeaning, LawfulDeck}
use Rattle.cards.specs.Shuffles.{ShuffleMeaning, LawfulShuffle}
use Rattle.protocol.specs.Machine.{Protocol, LawfulProtocol}
use Rattle.protocol.proofs.Certified.{certified_exactly, draws_counted}
use Rattle.protocol.proofs.Classes.{classes}
use Rattle.protocol.proofs.Fixed.{one_state}
use Rattle.protocol.proofs.Followed.{table_and_machine}
use Rattle.protocol.proofs.Kept.{kept}
use Rattle.protocol.proofs.Lines.{states_of_lines}
use Rattle.protocol.proofs.Numbers.{read_off}
use Rattle.protocol.proofs.Reached.{node_by_node}
use Rattle.sheet.specs.declared.states.CheckedScript.{CheckedScript}
use Rattle.sheet.specs.Sheets.{script_bytes}
use Rattle.sheet.specs.Lawful.{lawful_script}
use Rattle.sheet.specs.Passed.{not_some}
use Rattle.tree.specs.Walks.{playing}
use Rattle.certifier.specs.Certification.{Certification}
use Rattle.certifier.specs.Promise.{WholePromise}

pub lawful_playing : (s : CheckedScript) (deck : DeckMeaning) (bank : ℕ → ShuffleMeaning) → LawfulDeck deck → ((l : ℕ) → LawfulShuffle (bank l))
    → LawfulProtocol (playing s deck bank)
lawful_playing s deck bank d b =
    record { script = lawful_script (script_bytes s) (not_some _ s.passes); deck = d; bank = b }

pub certification : (p : Protocol) → LawfulProtocol p → (bench : ℕ) → Certification p bench
certification p l bench =
    record {
      lines = states_of_lines p l;
      read_off = read_off p bench;
      counted = node_by_node p l;
      classed = classes p l bench;
      exactly = certified_exactly p l bench;
    }

pub whole_promise : (p : Protocol) → LawfulProtocol p → WholePromise p
whole_promise p l =
    record {
      certification = certification p l;
      counts = draws_counted p l;
      one_state = one_state;
      machine = table_and_machine p;
      undistinguished = λ bench c h. (kept p l bench c h).calls;
      before_finish = λ bench c h. (kept p l bench c h).before_finish;
      finishes = λ bench c h. (kept p l bench c h).finish;
    }
