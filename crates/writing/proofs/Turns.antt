-- Turns and their branches: written by their rules they are accepted, and accepted bytes are so written.
use Rattle.std.proofs.Common.{◌≡◌, ℕ, zero, suc, ◌+◌, ◌-◌, ◌<◌, ◌≤◌, true, false, ltb, leb, List, [], ◌∷◌, ◌++◌, length, get_or, take, drop, None, sym, refl, ap, ◌∙◌, subst, ⊎_elim, arith}
use Rattle.std.proofs.lemmas.List.{append_assoc, length-take-le, take_more, take_all}
use Rattle.std.proofs.lemmas.Bool.{and_parts, and_from, cases_lt, le-leb, lt-ltb, leb-true, le-ltb, or_left, or_right, or_cases, both_ways}
use Rattle.std.specs.List.{flat_map, AllByRecursion}
use Rattle.script.specs.Model.{Branch}
use Rattle.heads.specs.declared.head.DeckKind.{DeckKind}
use Rattle.format.specs.Form.{Form, byte, wrong, listed}
use Rattle.heads.specs.Heads.{lowest_mark, highest_mark}
use Rattle.format.specs.Kinds.{from_to, ascending_rule, mark_rule, precedes, branches_form, turn_form}
use Rattle.format.proofs.Inversion.{byte_fits, ends_fits}
use Rattle.writing.specs.Writing.{branch_bytes, KeepsBranch, in_order, KeepsTurn}
use Rattle.writing.proofs.Accepting.{listed_accepts}
use Rattle.writing.proofs.Listing.{in_range, from_range, ascending_each, each_inside, each_positive, each_ascends}
use Rattle.writing.proofs.Lines.{got, first_rest}

module _ (deck : DeckKind) (t lines line : ℕ) where
  -- the marks of a branch, at each index
  marks_each : (previous marks : List ℕ) → length marks ≡ t → ((i : ℕ) → i < t → lowest_mark deck ≤ get_or marks i 0)
      → ((i : ℕ) → i < t → get_or marks i 0 ≤ highest_mark deck) → precedes previous marks ≡ true
      → (i : ℕ) → i < t → mark_rule deck t previous (take i marks) (get_or marks i 0) ≡ true
  marks_each previous marks e low high p i h =
      and_from _ _ (from_range (lowest_mark deck) (highest_mark deck) (get_or marks i 0) (low i h) (high i h))
      (⊎_elim
      (λ l. or_left _ _ (let k = length-take-le i marks (omega arith) in lt-ltb (suc (length (take i marks))) t (omega (arith, k, l))))
      (λ l. or_right _ _ (let q : take (i + 1) marks ≡ marks = take_all (i + 1) marks (omega arith) in
      subst (λ m. precedes previous m ≡ true) (sym q ∙ take_more marks i 0 (omega arith)) p))
      (cases_lt (suc i) t))

  each_mark : (previous marks : List ℕ) → ((i : ℕ) → i < t → mark_rule deck t previous (take i marks) (get_or marks i 0) ≡ true)
      → (i : ℕ) → i < t → (lowest_mark deck ≤ get_or marks i 0) × (get_or marks i 0 ≤ highest_mark deck)
  each_mark previous marks f i h = in_range (lowest_mark deck) (highest_mark deck) (get_or marks i 0) (and_parts _ _ (f i h)).0

  each_order : (previous marks : List ℕ) → 1 ≤ t → length marks ≡ t
      → ((i : ℕ) → i < t → mark_rule deck t previous (take i marks) (get_or marks i 0) ≡ true) → precedes previous marks ≡ true
  each_order previous marks some e f =
      let k = length-take-le (t - 1) marks (omega arith) in
      let q : take ((t - 1) + 1) marks ≡ marks = take_all ((t - 1) + 1) marks (omega arith) in
      let no : ltb (suc (length (take (t - 1) marks))) t ≡ false = le-ltb (suc (length (take (t - 1) marks))) t (omega (arith, k)) in
      ⊎_elim
      (λ y. absurd (both_ways _ no y))
      (λ y. subst (λ m. precedes previous m ≡ true) (sym (take_more marks (t - 1) 0 (omega arith)) ∙ q) y)
      (or_cases _ _ (and_parts _ _ (f (t - 1) (omega arith))).1)

  target_in : (b : ℕ) → line < b → b < lines → from_to (suc line) (lines - 1) b ≡ true
  target_in b l h = from_range (suc line) (lines - 1) b l (omega arith)

  pub branches_accepts : (from : ℕ) (previous : List ℕ) (bs : List Branch) → AllByRecursion (KeepsBranch deck t lines line) bs → in_order previous bs
      → wrong from (branches_form deck t (suc line) (lines - 1) (length bs) previous) (flat_map branch_bytes bs) ≡ None
  branches_accepts from previous [] k o = refl
  branches_accepts from previous (b ∷ bs) k o =
      let m = k.0 in
      let p = listed_accepts (mark_rule deck t previous)
      (λ marks. byte (from_to (suc line) (lines - 1)) (λ _. branches_form deck t (suc line) (lines - 1) (length bs) marks))
      t from [] b.marks (b.target ∷ flat_map branch_bytes bs) m.long
      (marks_each previous b.marks m.long m.low m.high o.0) in
      ap (λ x. wrong from (branches_form deck t (suc line) (lines - 1) (suc (length bs)) previous) x)
      (append_assoc b.marks (b.target ∷ []) (flat_map branch_bytes bs))
      ∙ (p ∙ rw (target_in b.target m.later m.there) (branches_accepts (suc (from + t)) b.marks bs k.1 o.1))

  pub record BranchesGot (count : ℕ) (previous bytes : List ℕ) (bs : List Branch) : Type 0 where
    pub long : length bs ≡ count
    pub whole : flat_map branch_bytes bs ≡ bytes
    pub keep : AllByRecursion (KeepsBranch deck t lines line) bs
    pub order : in_order previous bs

  pub branches_reads : 1 ≤ t → 1 ≤ lines → (count from : ℕ) (previous bytes : List ℕ)
      → wrong from (branches_form deck t (suc line) (lines - 1) count previous) bytes ≡ None
      → (bs : List Branch) × BranchesGot count previous bytes bs
  branches_reads some many zero from previous bytes e =
      ([], record { long = refl; whole = sym (ends_fits from bytes e); keep = tt; order = tt })
  branches_reads some many (suc count) from previous bytes e =
      let next = (λ (marks : List ℕ). byte (from_to (suc line) (lines - 1)) (λ _. branches_form deck t (suc line) (lines - 1) count marks)) in
      let g = got (mark_rule deck t previous) t from next bytes e in
      let marks = take t bytes in
      let a = byte_fits (from_to (suc line) (lines - 1)) (λ _. branches_form deck t (suc line) (lines - 1) count marks) (from + t) (drop t bytes) g.after in
      let target = get_or (drop t bytes) 0 0 in
      let r = branches_reads some many count (suc (from + t)) marks (drop 1 (drop t bytes)) a.1.1 in
      let i = in_range (suc line) (lines - 1) target a.1.0 in
      let w = r.1.whole in
      let rest : target ∷ drop 1 (drop t bytes) ≡ drop t bytes = sym (first_rest (drop t bytes) a.0) in (
        record { marks = marks; target = target } ∷ r.0,
        record {
          long = ap suc r.1.long;
          whole = append_assoc marks (target ∷ []) (flat_map branch_bytes r.0)
              ∙ (ap (λ x. marks ++ target ∷ x) w ∙ (ap (λ x. marks ++ x) rest ∙ g.whole));
          keep = (
            record {
              long = g.long;
              low = λ k h. (each_mark previous marks g.each k h).0;
              high = λ k h. (each_mark previous marks g.each k h).1;
              later = i.0;
              there = omega (arith, i.1);
            },
            r.1.keep,
          );
          order = (each_order previous marks some g.long g.each, r.1.order);
        },
      )

module _ (deck : DeckKind) (n lines line : ℕ) where
  abbrev counted : ℕ → Form
  counted t = byte (leb 1) (λ count. branches_form deck t (suc line) (lines - 1) count [])

  pub turn_accepts : (ps : List ℕ) (bs : List Branch) → KeepsTurn deck n lines line ps bs
      → wrong 1 (turn_form deck n (suc line) (lines - 1)) (length ps ∷ ps ++ length bs ∷ flat_map branch_bytes bs) ≡ None
  turn_accepts ps bs k =
      let p = listed_accepts (ascending_rule n) (λ _. counted (length ps)) (length ps) 2 [] ps (length bs ∷ flat_map branch_bytes bs) refl
      (ascending_each n ps k.positive k.inside k.ascend) in
      rw (from_range 1 n (length ps) k.some k.few)
      (p ∙ rw (le-leb 1 (length bs) k.branched) (branches_accepts deck (length ps) lines line (suc (2 + length ps)) [] bs k.each k.ordered))

  pub record TurnGot (tail ps : List ℕ) (bs : List Branch) : Type 0 where
    pub whole : length ps ∷ ps ++ length bs ∷ flat_map branch_bytes bs ≡ tail
    pub keeps : KeepsTurn deck n lines line ps bs

  pub turn_reads : 1 ≤ lines → (tail : List ℕ) → wrong 1 (turn_form deck n (suc line) (lines - 1)) tail ≡ None
      → (ps : List ℕ) × ((bs : List Branch) × TurnGot tail ps bs)
  turn_reads many [] e =
      let a = byte_fits (from_to 1 n) (λ t. listed t (ascending_rule n) [] (λ _. counted t)) 1 [] e in absurd (omega (arith, a.0))
  turn_reads many (t ∷ tail) e =
      let a = byte_fits (from_to 1 n) (λ x. listed x (ascending_rule n) [] (λ _. counted x)) 1 (t ∷ tail) e in
      let i = in_range 1 n t a.1.0 in
      let g = got (ascending_rule n) t 2 (λ _. counted t) tail a.1.1 in
      let b = byte_fits (leb 1) (λ count. branches_form deck t (suc line) (lines - 1) count []) (2 + t) (drop t tail) g.after in
      let count = get_or (drop t tail) 0 0 in
      let r = branches_reads deck t lines line i.0 many count (suc (2 + t)) [] (drop 1 (drop t tail)) b.1.1 in
      let ps = take t tail in
      let l = g.long in
      let rest : count ∷ drop 1 (drop t tail) ≡ drop t tail = sym (first_rest (drop t tail) b.0) in (
        ps,
        (
          r.0,
          record {
            whole = ap (λ x. x ∷ ps ++ length r.0 ∷ flat_map branch_bytes r.0) l
                ∙ ap (λ x. t ∷ x) (ap (λ x. ps ++ x ∷ flat_map branch_bytes r.0) r.1.long
                ∙ (ap (λ x. ps ++ count ∷ x) r.1.whole ∙ (ap (λ x. ps ++ x) rest ∙ g.whole)));
            keeps = record {
              some = rw l i.0;
              few = rw l i.1;
              positive = each_positive n t ps l g.each;
              inside = each_inside n t ps l g.each;
              ascend = each_ascends n t ps l g.each;
              branched = let c = r.1.long in rw c (leb-true 1 count b.1.0);
              each = subst (λ x. AllByRecursion (KeepsBranch deck x lines line) r.0) (sym l) r.1.keep;
              ordered = r.1.order;
            };
          },
        ),
      )
