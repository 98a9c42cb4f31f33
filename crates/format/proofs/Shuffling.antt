-- m, q and the places of a shuffle's frame.
use Rattle.std.proofs.Common.{◌≡◌, ℕ, suc, ◌+◌, ◌*◌, ◌≤◌, Bool, true, false, ◌&&◌, leb, List, [], ◌∷◌, ◌++◌, length, get_or, take, drop, Some, refl, sym, ap, ◌∙◌, arith}
use Rattle.std.proofs.lemmas.List.{append-nil, take-append-drop}
use Rattle.format.specs.Form.{Form, wrong, listed}
use Rattle.format.specs.Kinds.{from_to, distinct_rule, piled_form}
use Rattle.format.specs.Taking.{Broken}
use Rattle.format.specs.Parts.{cut, explicit, cut_parts, explicit_parts}
use Rattle.format.specs.Views.{PiledRead}
use Rattle.format.specs.declared.cursor.Cursor.{Cursor}
use Rattle.format.specs.declared.frame.Piled.{Piled}
use Rattle.heads.specs.declared.fault.SheetFault.TheVariants.{Byte}
use Rattle.format.proofs.Bytes.{byte_wrong}

module _ (n : ℕ) where
  -- q may stand after m
  abbrev pub slots_test : ℕ → ℕ → Bool
  slots_test m q = from_to 2 12 q && leb (q * m) n

  abbrev after_slots : ℕ → ℕ → (ℕ → Form) → Form
  after_slots m q next = listed (q * m) (distinct_rule 1 n) [] (λ _. next q)

  -- m may stand here, but q is missing or against its rule
  pub slots_broken : (start : Cursor) → 1 ≤ length start.rest.now → from_to 1 12 (get_or start.rest.now 0 0) ≡ true
      → (2 ≤ length start.rest.now → slots_test (get_or start.rest.now 0 0) (get_or start.rest.now 1 0) ≡ false)
      → Broken (piled_form n) start (Byte start.line (start.at + 1))
  slots_broken start l t f =
      let at : start.at + 1 ≡ suc start.at = omega arith in
      record { index = start.at + 1; names = refl; first = λ next. rw at (go start.rest.now l t f next) }
    where
      go : (xs : List ℕ) → 1 ≤ length xs → from_to 1 12 (get_or xs 0 0) ≡ true
          → (2 ≤ length xs → slots_test (get_or xs 0 0) (get_or xs 1 0) ≡ false)
          → (next : ℕ → Form) → wrong start.at (piled_form n next) xs ≡ Some (suc start.at)
      go [] l t f next = absurd (omega arith)
      go (m ∷ xs) l t f next =
          rw t (byte_wrong (slots_test m) (λ q. after_slots m q next) (suc start.at) xs (λ k. f (omega arith)))

  module _ {old new : Cursor} {p : Piled} (r : PiledRead n old p new) where
    pub cut_shows : new.rest.now ≡ [] → cut p.piles p.slots p.places.now ≡ cut_parts old.rest.now
    cut_shows e =
        let xs = drop 2 old.rest.now in
        let d : drop (p.slots * p.piles) xs ≡ [] = sym r.left ∙ e in
        let all : take (p.slots * p.piles) xs ≡ xs =
        sym (append-nil (take (p.slots * p.piles) xs)) ∙ (ap (λ ys. take (p.slots * p.piles) xs ++ ys) (sym d) ∙ take-append-drop (p.slots * p.piles) xs) in
        rw (r.listed, all, r.piles, r.slots)

    pub explicit_shows : explicit p.piles p.slots p.places.now (drop 1 new.rest.now) ≡ explicit_parts old.rest.now
    explicit_shows = rw (r.left, r.listed, r.piles, r.slots)
