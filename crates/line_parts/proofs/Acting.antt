-- What the lines of a checked script may do.
use Rattle.std.proofs.Common.{◌≡◌, ℕ, pred, ◌-◌, ◌<◌, ◌≤◌, ◌⊎◌, List, [], ◌∷◌, ◌++◌, map, length, get_or, sym, ap, ◌∙◌, subst, inl, inr, ⊎_elim, sub-one, arith}
use Rattle.std.proofs.ByRecursion.{All-weaker}
use Rattle.std.proofs.lemmas.List.{get_or-map, length-map, length-take}
use Rattle.std.proofs.lemmas.Bool.{cases_lt}
use Rattle.std.specs.List.{flat_map, AllByRecursion}
use Rattle.heads.specs.declared.head.Head.{Head}
use Rattle.format.specs.Parts.{parts}
use Rattle.script.specs.Model as model
use Rattle.script.specs.Model.{LawfulScript, LawfulAction, Branch}
use Rattle.sheet.specs.Lines.{frame, line_count}
use Rattle.sheet.specs.Scripts.{head, action_of}
use Rattle.sheet.specs.Sheets.{script, script_bytes}
use Rattle.sheet.specs.declared.states.CheckedScript.{CheckedScript}
use Rattle.sheet.specs.CountingLemmas.{no_parts}
use Rattle.sheet.specs.Lawful.{lawful_script, line_kept}
use Rattle.sheet.specs.Passed.{not_some}
use Rattle.writing.specs.Writing as writing
use Rattle.writing.specs.Writing.{Line, line_bytes, branch_bytes, KeepsLine}
use Rattle.writing.proofs.Frames.{line_reads}

-- the places that a line turns
abbrev turned : model.Action → List ℕ
turned (model.permute images next) = []
turned (model.shuffle draws next) = []
turned (model.turn places branches) = places
turned (model.committed left right) = []
turned (model.opened value) = []
turned model.none = []

few_written : (h : Head) (lines l : ℕ) (x : Line) → KeepsLine h lines l x → length (turned (action_of l (parts (line_bytes x)))) ≤ h.cards
few_written h lines l (writing.permute ps) k = omega arith
few_written h lines l (writing.cut m q ps) k = omega arith
few_written h lines l (writing.explicit m q ps es) k = omega arith
few_written h lines l (writing.turn ps bs) k =
    let t = length-take (length ps) (ps ++ length bs ∷ flat_map branch_bytes bs) in
    let f = k.few in
    omega arith
few_written h lines l (writing.committed a b) k = omega arith
few_written h lines l (writing.opened v) k = omega arith

-- a turn has some places, at most twelve, and each is in the row
pub record TurnPlaces (places : List ℕ) : Type 0 where
  pub some : 1 ≤ length places
  pub few : length places ≤ 12
  pub inside : AllByRecursion (λ p. (1 ≤ p) × (p ≤ 12)) places

module _ (s : CheckedScript) where
  pub lawful : LawfulScript (script s)
  lawful = lawful_script (script_bytes s) (not_some _ s.passes)

  -- a line that does something is a line of the script, from line 2 on
  line_inside : (l : ℕ) → ((script s).action l ≡ model.none → ⊥) → (2 ≤ l) × (l < (script s).lines)
  line_inside l some =
      let outside : (l < 2) ⊎ ((script s).lines ≤ l) → ⊥ = λ o.
      some (ap (action_of l) (no_parts (script_bytes s) (not_some _ s.passes) l o)) in (
        ⊎_elim (λ h. absurd (outside (inl h))) (λ h. h) (cases_lt l 2),
        ⊎_elim (λ h. h) (λ h. absurd (outside (inr h))) (cases_lt l (script s).lines),
      )

  lawful_line : (l : ℕ) (a : model.Action) → (script s).action l ≡ a → (a ≡ model.none → ⊥)
      → LawfulAction (script s).cards (script s).lines l a
  lawful_line l a e some =
      let i = line_inside l (λ n. some (sym e ∙ n)) in
      subst (LawfulAction (script s).cards (script s).lines l) e (lawful.acts l i.0 i.1)

  pub permute_places : (l : ℕ) (places : List ℕ) (next : ℕ) → (script s).action l ≡ model.permute (map pred places) next
      → (i : ℕ) → i < length places → get_or places i 0 ≤ 12
  permute_places l places next e i h =
      let p = (lawful_line l (model.permute (map pred places) next) e (λ q. let z : ◌≡◌ {A = ℕ} 0 1 = cc in omega arith)).0 in
      let n : i < (script s).cards = subst (λ (k : ℕ). i < k) (sym (length-map places pred) ∙ p.long) h in
      let few = lawful.few_cards in
      let b : pred (get_or places i 0) < (script s).cards = subst (λ (k : ℕ). k < (script s).cards) (get_or-map pred places i 0 0 h) (p.below i n) in
      let q : get_or places i 0 - 1 ≡ pred (get_or places i 0) = sub-one (get_or places i 0) in
      omega arith

  module _ (l : ℕ) (places : List ℕ) (branches : List Branch) (e : (script s).action l ≡ model.turn places branches) where
    not_none : (script s).action l ≡ model.none → ⊥
    not_none q = let z : ◌≡◌ {A = ℕ} 0 1 = cc in omega arith

    lawful_turn : LawfulAction (script s).cards (script s).lines l (model.turn places branches)
    lawful_turn = lawful_line l (model.turn places branches) e (λ q. not_none (e ∙ q))

    pub few_places : length places ≤ 12
    few_places =
        let sheet : List ℕ = script_bytes s in
        let i = line_inside l not_none in
        let v = not_some _ s.passes in
        let r = line_reads (head sheet) (line_count sheet) l i.0 (let h = i.1 in omega arith) (frame sheet l) (line_kept sheet v l i.0 i.1) in
        let same : length (turned (action_of l (parts (line_bytes r.0)))) ≡ length places
        = ap (λ (b : List ℕ). length (turned (action_of l (parts b)))) r.1.0 ∙ ap (λ (a : model.Action). length (turned a)) e in
        let k = few_written (head sheet) (line_count sheet) l r.0 r.1.1 in
        let few = lawful.few_cards in
        omega arith

    pub turn_places : TurnPlaces places
    turn_places =
        let few = lawful.few_cards in
        record {
          some = lawful_turn.0;
          few = few_places;
          inside = All-weaker (λ p. (1 ≤ p) × (p ≤ (script s).cards)) (λ p. (1 ≤ p) × (p ≤ 12)) (λ p h. (h.0, (let k = h.1 in omega arith))) places lawful_turn.1.0;
        }

  pub result_places : (l left right : ℕ) → (script s).action l ≡ model.committed left right → ((1 ≤ left) × (left ≤ 12)) × ((1 ≤ right) × (right ≤ 12))
  result_places l left right e =
      let p = lawful_line l (model.committed left right) e (λ q. let z : ◌≡◌ {A = ℕ} 0 1 = cc in omega arith) in
      let few = lawful.few_cards in
      let a = p.0.1 in
      let b = p.1.1 in
      ((p.0.0, omega arith), (p.1.0, omega arith))
