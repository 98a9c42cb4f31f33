-- The head and the layout: written by their rules they are accepted, and accepted bytes are so written.
use Rattle.std.proofs.Common.{◌≡◌, ℕ, zero, suc, ◌+◌, ◌*◌, ◌^◌, ◌<◌, ◌≤◌, Bool, true, not, eqb, leb, List, [], ◌∷◌, ◌++◌, length, get_or, take, drop, None, sym, refl, ap, ◌∙◌, subst, ⊎_elim, arith}
use Rattle.std.proofs.lemmas.List.{append-nil, get_or-take, length-take-le}
use Rattle.std.proofs.lemmas.Bool.{and_parts, and_from, cases_Bool, or_left, or_right, or_cases, not_from_false, not_from_true, not-true, not-false, eqb-true, leb-true, ltb-true, le-leb, lt-ltb}
use Rattle.cards.specs.Lists.{member}
use Rattle.heads.specs.declared.head.Head.{Head}
use Rattle.heads.specs.declared.head.DeckKind.{DeckKind}
use Rattle.heads.specs.declared.head.DeckKind.TheVariants.{TwoColour, Standard}
use Rattle.heads.specs.declared.head.Output.{Output}
use Rattle.heads.specs.declared.head.Output.TheVariants.{Committed, Open}
use Rattle.heads.specs.Heads.{deck_byte, deck_of_byte, deck_meaning, output_byte, output_of_byte, head_of}
use Rattle.format.specs.Form.{ends, wrong, listed}
use Rattle.format.specs.Kinds.{from_to, head_rule, head_form, code_rule, layout_form}
use Rattle.format.proofs.Inversion.{byte_fits, ends_fits, listed_fits}
use Rattle.sheet.specs.First.{given}
use Rattle.sheet.specs.Verdicts.{missing_code}
use Rattle.sheet.specs.Firsts.{first_from_each, first_none_each, given_none}
use Rattle.writing.specs.Writing.{head_bytes, layout_bytes, KeepsHead, KeepsLayout}
use Rattle.writing.proofs.Accepting.{listed_accepts}
use Rattle.writing.proofs.Lines.{Got, got, first_rest}
use Rattle.writing.proofs.Listing.{in_range, from_range, member_index, before_not}

-- the head
deck_low : (d : DeckKind) → leb (deck_byte d) 1 ≡ true
deck_low TwoColour = refl
deck_low Standard = refl

output_low : (o : Output) → leb (output_byte o) 1 ≡ true
output_low Committed = refl
output_low Open = refl

pub head_accepts : (h : Head) → KeepsHead h → wrong 0 head_form (head_bytes h) ≡ None
head_accepts h k =
    rw (
      deck_low h.deck,
      from_range 2 12 h.cards k.some_cards k.few_cards,
      and_from _ _ (from_range 1 3 h.players k.some_players k.few_players) (le-leb (2 * h.players) h.cards k.pairs),
      lt-ltb h.function (2 ^ 2 ^ h.players) k.value,
      output_low h.output,
    )

deck_back : (d : DeckKind) → deck_of_byte (deck_byte d) ≡ d
deck_back TwoColour = refl
deck_back Standard = refl

output_back : (o : Output) → output_of_byte (output_byte o) ≡ o
output_back Committed = refl
output_back Open = refl

pub head_back : (h : Head) → head_of (head_bytes h) ≡ h
head_back h =
    ap (λ d. record { deck = d; cards = h.cards; players = h.players; function = h.function; output = output_of_byte (output_byte h.output) }) (deck_back h.deck)
    ∙ ap (λ o. record { deck = h.deck; cards = h.cards; players = h.players; function = h.function; output = o }) (output_back h.output)

deck_again : (b : ℕ) → b ≤ 1 → deck_byte (deck_of_byte b) ≡ b
deck_again zero l = refl
deck_again (suc zero) l = refl
deck_again (suc (suc b)) l = absurd (omega arith)

output_again : (b : ℕ) → b ≤ 1 → output_byte (output_of_byte b) ≡ b
output_again zero l = refl
output_again (suc zero) l = refl
output_again (suc (suc b)) l = absurd (omega arith)

six : (xs : List ℕ) → length xs ≡ 6
    → xs ≡ get_or xs 0 0 ∷ get_or xs 1 0 ∷ get_or xs 2 0 ∷ get_or xs 3 0 ∷ get_or xs 4 0 ∷ get_or xs 5 0 ∷ []
six [] e = absurd (omega arith)
six (a ∷ []) e = absurd (omega arith)
six (a ∷ b ∷ []) e = absurd (omega arith)
six (a ∷ b ∷ c ∷ []) e = absurd (omega arith)
six (a ∷ b ∷ c ∷ d ∷ []) e = absurd (omega arith)
six (a ∷ b ∷ c ∷ d ∷ f ∷ []) e = absurd (omega arith)
six (a ∷ b ∷ c ∷ d ∷ f ∷ g ∷ []) e = refl
six (a ∷ b ∷ c ∷ d ∷ f ∷ g ∷ h ∷ xs) e = absurd (omega arith)

module _ (bytes : List ℕ) (e : wrong 0 head_form bytes ≡ None) where
  taken : Got head_rule 6 0 (λ _. ends) bytes (take 6 bytes) (drop 6 bytes)
  taken = got head_rule 6 0 (λ _. ends) bytes e

  long : length bytes ≡ 6
  long =
      let nil = ends_fits 6 (drop 6 bytes) taken.after in
      let same : take 6 bytes ≡ bytes = sym (append-nil (take 6 bytes)) ∙ (ap (λ r. take 6 bytes ++ r) (sym nil) ∙ taken.whole) in
      subst (λ xs. length xs ≡ 6) same taken.long

  test : (i : ℕ) → i < 6 → head_rule (take i bytes) (get_or bytes i 0) ≡ true
  test i l = (listed_fits head_rule (λ _. ends) 6 0 [] bytes e).each i l

  counted : (i : ℕ) → i < 6 → length (take i bytes) ≡ i
  counted i l = length-take-le i bytes (let q = long in omega (arith, q))

  kind_at : get_or bytes 0 0 ≡ 1
  kind_at = eqb-true (get_or bytes 0 0) 1 (test 0 (omega arith))

  deck_at : get_or bytes 1 0 ≤ 1
  deck_at = let c = counted 1 (omega arith) in leb-true (get_or bytes 1 0) 1 (rw c at (test 1 (omega arith)))

  cards_at : (2 ≤ get_or bytes 2 0) × (get_or bytes 2 0 ≤ 12)
  cards_at = let c = counted 2 (omega arith) in in_range 2 12 (get_or bytes 2 0) (rw c at (test 2 (omega arith)))

  players_at : (from_to 1 3 (get_or bytes 3 0) ≡ true) × (leb (2 * get_or bytes 3 0) (get_or (take 3 bytes) 2 0) ≡ true)
  players_at = let c = counted 3 (omega arith) in and_parts _ _ (rw c at (test 3 (omega arith)))

  value_at : get_or bytes 4 0 < 2 ^ 2 ^ get_or bytes 3 0
  value_at =
      let c = counted 4 (omega arith) in
      let t = ltb-true (get_or bytes 4 0) (2 ^ 2 ^ get_or (take 4 bytes) 3 0) (rw c at (test 4 (omega arith))) in
      subst (λ k. get_or bytes 4 0 < 2 ^ 2 ^ k) (get_or-take 4 bytes 3 0 (omega arith)) t

  output_at : get_or bytes 5 0 ≤ 1
  output_at = let c = counted 5 (omega arith) in leb-true (get_or bytes 5 0) 1 (rw c at (test 5 (omega arith)))

  pub head_reads : KeepsHead (head_of bytes)
  head_reads =
      let k = in_range 1 3 (get_or bytes 3 0) players_at.0 in
      record {
        some_cards = cards_at.0;
        few_cards = cards_at.1;
        some_players = k.0;
        few_players = k.1;
        pairs = subst (λ n. 2 * get_or bytes 3 0 ≤ n) (get_or-take 3 bytes 2 0 (omega arith)) (leb-true _ _ players_at.1);
        value = value_at;
      }

  pub head_again : head_bytes (head_of bytes) ≡ bytes
  head_again =
      ap (λ x. 1 ∷ x ∷ get_or bytes 2 0 ∷ get_or bytes 3 0 ∷ get_or bytes 4 0 ∷ output_byte (output_of_byte (get_or bytes 5 0)) ∷ []) (deck_again (get_or bytes 1 0) deck_at)
      ∙ (ap (λ x. 1 ∷ get_or bytes 1 0 ∷ get_or bytes 2 0 ∷ get_or bytes 3 0 ∷ get_or bytes 4 0 ∷ x ∷ []) (output_again (get_or bytes 5 0) output_at)
      ∙ (ap (λ x. x ∷ get_or bytes 1 0 ∷ get_or bytes 2 0 ∷ get_or bytes 3 0 ∷ get_or bytes 4 0 ∷ get_or bytes 5 0 ∷ []) (sym kind_at) ∙ sym (six bytes long)))

-- the layout
module _ (h : Head) where
  abbrev rule : List ℕ → ℕ → Bool
  rule = code_rule (deck_meaning h.deck) h.players

  pub layout_accepts : (codes : List ℕ) → KeepsLayout h codes → wrong 0 (layout_form h) (layout_bytes codes) ≡ None
  layout_accepts codes k =
      let p = listed_accepts rule (λ _. ends) h.cards 1 [] codes [] k.all (λ i l.
      let m : i < length codes = rw k.all l in
      and_from _ _ (k.lie i m)
      (⊎_elim
      (λ t. let q = member_index (get_or codes i 0) (take i codes) t in
      let c = length-take-le i codes (omega arith) in
      let b : q.0 < i = omega (arith, q.1.0, c) in
      or_left _ _ (k.once q.0 i b m (sym (get_or-take i codes q.0 0 b) ∙ q.1.1)))
      (λ t. or_right _ _ (not_from_false _ t))
      (cases_Bool (member (get_or codes i 0) (take i codes))))) in
      ap (λ b. wrong 0 (layout_form h) (2 ∷ b)) (sym (append-nil codes)) ∙ p

  pub players_there : (codes : List ℕ) → KeepsLayout h codes → missing_code h.players codes ≡ None
  players_there codes k =
      first_from_each (λ i. given (not (member (16 + i) codes)) (16 + i)) (2 * h.players)
      (λ i l. let m = not_from_true _ (k.players i l) in rw m)

  pub layout_reads : (bytes : List ℕ) → wrong 0 (layout_form h) bytes ≡ None → missing_code h.players (drop 1 bytes) ≡ None
      → (layout_bytes (drop 1 bytes) ≡ bytes) × KeepsLayout h (drop 1 bytes)
  layout_reads bytes e m =
      let a = byte_fits (eqb 2) (λ _. listed h.cards rule [] (λ _. ends)) 0 bytes e in
      let codes = drop 1 bytes in
      let g = got rule h.cards 1 (λ _. ends) codes a.1.1 in
      let nil = ends_fits (1 + h.cards) (drop h.cards codes) g.after in
      let same : take h.cards codes ≡ codes = sym (append-nil (take h.cards codes)) ∙ (ap (λ r. take h.cards codes ++ r) (sym nil) ∙ g.whole) in
      let l : length codes ≡ h.cards = subst (λ xs. length xs ≡ h.cards) same g.long in
      let each : (i : ℕ) → i < h.cards → rule (take i codes) (get_or codes i 0) ≡ true
      = subst (λ xs. (i : ℕ) → i < h.cards → rule (take i xs) (get_or xs i 0) ≡ true) same g.each in (
        ap (λ x. x ∷ codes) (eqb-true 2 (get_or bytes 0 0) a.1.0) ∙ sym (first_rest bytes a.0),
        record {
          all = l;
          lie = λ i k. (and_parts _ _ (each i (rw (sym l) k))).0;
          once = λ i j b k q.
              let o = (and_parts _ _ (each j (omega (arith, k, l)))).1 in
              ⊎_elim (λ y. y)
              (λ y. absurd (before_not codes (get_or codes j 0) j i (omega arith) (not-true _ y) b q))
              (or_cases _ _ o);
          players = λ i k. not-false _ (given_none _ _ (first_none_each (λ x. given (not (member (16 + x) codes)) (16 + x)) (2 * h.players) m i k));
        },
      )
