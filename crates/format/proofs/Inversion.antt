-- What is known of bytes in which no fault is found.
use Rattle.std.proofs.Common.{◌≡◌, ℕ, zero, suc, ◌+◌, ◌-◌, ◌*◌, ◌<◌, ◌≤◌, Bool, true, false, cond, ◌&&◌, leb, List, [], ◌∷◌, ◌++◌, length, get_or, take, drop, Some, None, Option, sym, refl, ap, ◌∙◌, add-zero, arith}
use Rattle.std.proofs.lemmas.List.{append-nil, append_assoc, length-take-le, length-drop}
use Rattle.std.proofs.lemmas.Bool.{and_parts}
use Rattle.std.proofs.lemmas.Bool.Decides.{nat_tests}
use Rattle.format.specs.Form.{Form, ends, byte, wrong, listed}
use Rattle.format.specs.Kinds.{from_to, head_rule, head_form}

some_none : (x : ℕ) (o : Option ℕ) → o ≡ Some x → o ≡ None → ⊥
some_none x o p q = let z : ◌≡◌ {A = ℕ} 0 1 = cc in omega arith

tested : (t : Bool) (o : Option ℕ) (x : ℕ) → cond t o (Some x) ≡ None → (t ≡ true) × (o ≡ None)
tested true o x e = (refl, e)
tested false o x e = absurd (some_none x (Some x) refl e)

pub byte_fits : (test : ℕ → Bool) (next : ℕ → Form) (from : ℕ) (bytes : List ℕ) → wrong from (byte test next) bytes ≡ None
    → (1 ≤ length bytes) × ((test (get_or bytes 0 0) ≡ true) × (wrong (suc from) (next (get_or bytes 0 0)) (drop 1 bytes) ≡ None))
byte_fits test next from [] e = absurd (some_none from (Some from) refl e)
byte_fits test next from (b ∷ bs) e =
    let p = tested (test b) (wrong (suc from) (next b) bs) from e in (omega arith, p)

pub ends_fits : (from : ℕ) (bytes : List ℕ) → wrong from ends bytes ≡ None → bytes ≡ []
ends_fits from [] e = refl
ends_fits from (b ∷ bs) e = absurd (some_none from (Some from) refl e)

module _ (rule : List ℕ → ℕ → Bool) (next : List ℕ → Form) where
  pub record Lists (n from : ℕ) (before bytes : List ℕ) : Type 0 where
    pub long : n ≤ length bytes
    pub each : (i : ℕ) → i < n → rule (before ++ take i bytes) (get_or bytes i 0) ≡ true
    pub rest : wrong (from + n) (next (before ++ take n bytes)) (drop n bytes) ≡ None

  pub listed_fits : (n from : ℕ) (before bytes : List ℕ) → wrong from (listed n rule before next) bytes ≡ None → Lists n from before bytes
  listed_fits zero from before bytes e =
      record { long = omega arith; each = λ i h. absurd (omega arith); rest = rw (add-zero, append-nil before) e }
  listed_fits (suc n) from before [] e = absurd (some_none from (Some from) refl e)
  listed_fits (suc n) from before (b ∷ bs) e =
      let p = tested (rule before b) (wrong (suc from) (listed n rule (before ++ b ∷ []) next) bs) from e in
      let q = listed_fits n (suc from) (before ++ b ∷ []) bs p.1 in
      record {
        long = omega (arith, q.long);
        each = λ i. elim i as (λ k. k < suc n → rule (before ++ take k (b ∷ bs)) (get_or (b ∷ bs) k 0) ≡ true) [
          | zero ↦ λ h. rw (append-nil before) p.0
          | suc j ↦ λ h. rw (← append_assoc before (b ∷ []) (take j bs)) (q.each j (omega arith))
        ];
        rest = let f : from + suc n ≡ suc from + n = omega arith in
            rw (f, ← append_assoc before (b ∷ []) (take n bs)) q.rest;
      }

-- what a head that keeps its form says
pub record HeadKept (bytes : List ℕ) : Type 0 where
  pub some_cards : 2 ≤ get_or bytes 2 0
  pub few_cards : get_or bytes 2 0 ≤ 12
  pub some_players : 1 ≤ get_or bytes 3 0
  pub few_players : get_or bytes 3 0 ≤ 3
  pub long : length bytes ≡ 6

in_range : (low high b : ℕ) → from_to low high b ≡ true → (low ≤ b) × (b ≤ high)
in_range low high b e = (grind (arith, nat_tests), grind (arith, nat_tests))

pub head_kept : (bytes : List ℕ) → wrong 0 head_form bytes ≡ None → HeadKept bytes
head_kept bytes e =
    let p = listed_fits head_rule (λ _. ends) 6 0 [] bytes e in
    let two : length (take 2 bytes) ≡ 2 = length-take-le 2 bytes (omega (arith, p.long)) in
    let three : length (take 3 bytes) ≡ 3 = length-take-le 3 bytes (omega (arith, p.long)) in
    let n = in_range 2 12 _ (cards_at (take 2 bytes) _ two (p.each 2 (omega arith))) in
    let k = in_range 1 3 _ (players_at (take 3 bytes) _ three (p.each 3 (omega arith))) in
    record {
      some_cards = n.0;
      few_cards = n.1;
      some_players = k.0;
      few_players = k.1;
      long = ended bytes p.long (ends_fits 6 (drop 6 bytes) p.rest);
    }
  where
    cards_at : (before : List ℕ) (b : ℕ) → length before ≡ 2 → head_rule before b ≡ true → from_to 2 12 b ≡ true
    cards_at before b l h = rw l at h

    players_at : (before : List ℕ) (b : ℕ) → length before ≡ 3 → head_rule before b ≡ true → from_to 1 3 b ≡ true
    players_at before b l h =
        let g : from_to 1 3 b && leb (2 * b) (get_or before 2 0) ≡ true = rw l at h in (and_parts _ _ g).0

    ended : (xs : List ℕ) → 6 ≤ length xs → drop 6 xs ≡ [] → length xs ≡ 6
    ended xs l h = let g : length xs - 6 ≡ 0 = sym (length-drop 6 xs) ∙ ap length h in omega arith
