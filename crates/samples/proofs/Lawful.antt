-- The worked protocols are lawful.
use Rattle.std.proofs.Common.{◌≡◌, ℕ, zero, suc, ◌+◌, ◌-◌, ◌*◌, ◌/◌, ◌%◌, ◌<◌, ◌≤◌, Bool, true, false, cond, eqb, [], ◌∷◌, sym, refl, ap, ◌∙◌, inl, inr, arith, le-ltb, lt-ltb}
use Rattle.std.proofs.lemmas.Bool.{cases_eq, cases_order}
use Rattle.cards.specs.Shuffles.{cut, piles}
use Rattle.cards.specs.Decks.{LawfulDeck, two_colour, ordered, swapped, bit, bit_reading, player_code}
use Rattle.cards.specs.declared.reading.Reading.TheVariants.{Zero, One, Neither}
use Rattle.script.specs.Model.{LawfulAction}
use Rattle.shuffles.specs.Lawful.{lawful_cut, lawful_piles, lawful_places}
use Rattle.protocol.specs.Machine.{LawfulProtocol}
use Rattle.protocol.specs.Tree.{Certified, certify, scan, events, subtree}
use Rattle.protocol.specs.Samples.{xor, trick}
use Rattle.protocol.proofs.Kept.{kept}
use Rattle.samples.specs.Applied.{xor_certificate, trick_certificate, PromisesApply}

-- the two-colour deck

both_small : (t : Bool) (x y : ℕ) → x < 16 → y < 16 → cond t x y < 16
both_small true x y h k = h
both_small false x y h k = k

ordered_equal : (u : ℕ) → ordered u u ≡ Neither
ordered_equal u = rw (le-ltb u u (omega arith))

ordered_below : (u v : ℕ) → u < v → ordered u v ≡ Zero
ordered_below u v h = rw (lt-ltb u v h)

ordered_above : (u v : ℕ) → v < u → ordered u v ≡ One
ordered_above u v h = rw (le-ltb u v (omega arith), lt-ltb v u h)

ordered_swaps : (u v : ℕ) → ordered v u ≡ swapped (ordered u v)
ordered_swaps u v =
    elim (cases_order u v) [
      | inl e ↦ rw (e, ordered_equal v)
      | inr o ↦
          elim o [
            | inl l ↦ ordered_above v u l ∙ ap swapped (sym (ordered_below u v l))
            | inr l ↦ ordered_below v u l ∙ ap swapped (sym (ordered_above u v l))
          ]
    ]

pair_reads : (v : ℕ) → v < 2 → ordered v (1 - v) ≡ bit_reading v
pair_reads v h =
    elim (cases_eq v 0) [
      | inl e ↦ rw e
      | inr ne ↦ let e : v ≡ 1 = omega (arith, ne) in rw e
    ]

two_colour_lawful : LawfulDeck two_colour
two_colour_lawful =
    record {
      sixteen = λ code input.
          both_small (player_code 3 code)
          (cond (eqb (code % 2) 0) (bit input ((code - 16) / 2)) (1 - bit input ((code - 16) / 2)))
          (cond (eqb code 1) 1 0)
          (both_small (eqb (code % 2) 0) (bit input ((code - 16) / 2)) (1 - bit input ((code - 16) / 2)) (omega arith) (omega arith))
          (both_small (eqb code 1) 1 0 (omega arith) (omega arith));
      equal = ordered_equal;
      swaps = ordered_swaps;
      players = reads;
    }
  where
    reads : (i input : ℕ) → i < 3 → ordered (two_colour.card (16 + 2 * i) input) (two_colour.card (17 + 2 * i) input) ≡ bit_reading (bit input i)
    reads zero input h = pair_reads (bit input 0) (omega arith)
    reads (suc zero) input h = pair_reads (bit input 1) (omega arith)
    reads (suc (suc zero)) input h = pair_reads (bit input 2) (omega arith)
    reads (suc (suc (suc i))) input h = absurd (omega arith)

-- exclusive or

xor_acts : (l : ℕ) → 2 ≤ l → l < 6 → LawfulAction 4 6 l (xor.script.action l)
xor_acts zero h k = absurd (omega arith)
xor_acts (suc zero) h k = absurd (omega arith)
xor_acts (suc (suc zero)) h k = (omega arith, (omega arith, omega arith))
xor_acts (suc (suc (suc zero))) h k =
    (omega arith, ((omega arith, (omega arith, tt)), (record { shown = refl; onward = omega arith }, (record { shown = refl; onward = omega arith }, tt))))
xor_acts (suc (suc (suc (suc zero)))) h k = omega arith
xor_acts (suc (suc (suc (suc (suc zero))))) h k = omega arith
xor_acts (suc (suc (suc (suc (suc (suc l)))))) h k = absurd (omega arith)

xor_lawful : LawfulProtocol xor
xor_lawful =
    record {
      script =
          record {
            some_cards = omega arith;
            few_cards = omega arith;
            some_players = omega arith;
            few_players = omega arith;
            laid = refl;
            some_line = omega arith;
            few_lines = omega arith;
            acts = xor_acts;
          };
      deck = two_colour_lawful;
      bank = λ l. lawful_places 4 (1 ∷ 3 ∷ 2 ∷ 4 ∷ []) (piles 2 (cut 2)) (lawful_piles 2 (cut 2) (lawful_cut 2));
    }

xor_certified : Certified xor 10 xor_certificate
unfolding certify scan events subtree
xor_certified = record { built = refl; faultless = refl }

-- the five-card trick

trick_acts : (l : ℕ) → 2 ≤ l → l < 6 → LawfulAction 5 6 l (trick.script.action l)
trick_acts zero h k = absurd (omega arith)
trick_acts (suc zero) h k = absurd (omega arith)
trick_acts (suc (suc zero)) h k = (omega arith, (omega arith, omega arith))
trick_acts (suc (suc (suc zero))) h k = (
  omega arith,
  (
    (omega arith, (omega arith, (omega arith, (omega arith, (omega arith, tt))))),
    (record { shown = refl; onward = omega arith }, (record { shown = refl; onward = omega arith }, (record { shown = refl; onward = omega arith }, (record { shown = refl; onward = omega arith }, (record { shown = refl; onward = omega arith }, (record { shown = refl; onward = omega arith }, (record { shown = refl; onward = omega arith }, (record { shown = refl; onward = omega arith }, (record { shown = refl; onward = omega arith }, (record { shown = refl; onward = omega arith }, tt)))))))))),
  ),
)
trick_acts (suc (suc (suc (suc zero)))) h k = omega arith
trick_acts (suc (suc (suc (suc (suc zero))))) h k = omega arith
trick_acts (suc (suc (suc (suc (suc (suc l)))))) h k = absurd (omega arith)

trick_lawful : LawfulProtocol trick
trick_lawful =
    record {
      script =
          record {
            some_cards = omega arith;
            few_cards = omega arith;
            some_players = omega arith;
            few_players = omega arith;
            laid = refl;
            some_line = omega arith;
            few_lines = omega arith;
            acts = trick_acts;
          };
      deck = two_colour_lawful;
      bank = λ l. lawful_places 5 (1 ∷ 2 ∷ 3 ∷ 4 ∷ 5 ∷ []) (piles 1 (cut 5)) (lawful_piles 1 (cut 5) (lawful_cut 5));
    }

trick_certified : Certified trick 100 trick_certificate
unfolding certify scan events subtree
trick_certified = record { built = refl; faultless = refl }

pub promises_apply : PromisesApply
promises_apply = (
  record {
    lawful = xor_lawful;
    certified = xor_certified;
    promise = kept xor xor_lawful 10 xor_certificate xor_certified;
  },
  record {
    lawful = trick_lawful;
    certified = trick_certified;
    promise = kept trick trick_lawful 100 trick_certificate trick_certified;
  },
)
