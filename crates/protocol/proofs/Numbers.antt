-- Nodes are numbered in the order in which they are made, and the certificate is read off them.
use Rattle.std.proofs.Common.{◌≡◌, ℕ, zero, suc, ◌+◌, Bool, List, [], ◌∷◌, ◌++◌, map, length, Some, None, Ok, Err, Option, sym, refl, ap, ◌∙◌, add-zero, zero-add, arith, length-append}
use Rattle.std.specs.List.{range_with_len}
use Rattle.std.specs.Option.{option_or}
use Rattle.std.proofs.lemmas.List.{map-append}
use Rattle.script.specs.Model.{Branch, Action, permute, shuffle, turn, committed, opened, none}
use Rattle.script.specs.Faults.{Fault}
use Rattle.protocol.specs.Machine.{Protocol, action_at, permuting, shuffling, target}
use Rattle.protocol.specs.States.{Child, children, leaks}
use Rattle.protocol.specs.Tree.{Node, Event, nodes_in, mixed_node, child_node, child_events, turn_events, events_below, subtree, events, nodes, root, offence, Certificate, noted, noted_event, noted_number, is_wrong, or_fault, scan, certify, blank}
use Rattle.protocol.specs.Promises.{first_offence, first_number, AlwaysReadOff}
use Rattle.protocol.proofs.TreeSum.{nodes_append}
use Rattle.protocol.proofs.Scan.{certify_built, noted_all}

counting_append : (a m n : ℕ) → range_with_len a (m + n) ≡ range_with_len a m ++ range_with_len (a + m) n
counting_append a zero n = rw (zero-add, add-zero)
counting_append a (suc m) n =
    let e : suc m + n ≡ suc (m + n) = omega arith in
    let f : a + 1 + m ≡ a + suc m = omega arith in
    ap (range_with_len a) e
    ∙ ap (λ (l : List ℕ). a ∷ l) (counting_append (a + 1) m n ∙ ap (λ k. range_with_len (a + 1) m ++ range_with_len k n) f)

-- the nodes of these events have the numbers from k on
abbrev From : ℕ → List Event → Type 0
From k es = map (λ u. u.number) (nodes_in es) ≡ range_with_len k (length (nodes_in es))

from_append : (k : ℕ) (es fs : List Event) → From k es → From (k + length (nodes_in es)) fs → From k (es ++ fs)
from_append k es fs a b =
    let n : List Node = nodes_in es in
    let m : List Node = nodes_in fs in
    ap (map (λ u. u.number)) (nodes_append es fs)
    ∙ map-append (λ (u : Node). u.number) n m
    ∙ ap (λ (l : List ℕ). l ++ map (λ u. u.number) m) a
    ∙ ap (λ (l : List ℕ). range_with_len k (length n) ++ l) b
    ∙ sym (counting_append k (length n) (length m))
    ∙ ap (range_with_len k) (sym (length-append n m) ∙ ap length (sym (nodes_append es fs)))

module _ (grow : Node → List Event) (ih : (u : Node) → From u.number (grow u)) where
  child_from : (u : Node) (c : Child) (k : ℕ) (o : Option ℕ) → From k (child_events grow u c k o)
  child_from u c k None = refl
  child_from u c k (Some l) = ih (child_node u c k l)

  turn_from : (branches : List Branch) (u : Node) (k : ℕ) (cs : List Child) → From k (turn_events grow branches u k cs)
  turn_from branches u k [] = refl
  turn_from branches u k (c ∷ cs) =
      let es : List Event = child_events grow u c k (target c.marks branches) in
      from_append k es (turn_events grow branches u (k + length (nodes_in es)) cs)
      (child_from u c k (target c.marks branches)) (turn_from branches u (k + length (nodes_in es)) cs)

  below_from : (p : Protocol) (u : Node) (action : Action) → From (suc u.number) (events_below grow p u action)
  below_from p u (permute images next) = ih (mixed_node p (permuting images next) u)
  below_from p u (shuffle total next) = ih (mixed_node p (shuffling p u.line total next) u)
  below_from p u (turn places branches) = turn_from branches u (suc u.number) (children p.script.cards places u.rows)
  below_from p u (committed left right) = refl
  below_from p u (opened value) = refl
  below_from p u none = refl

subtree_from : (k : ℕ) (p : Protocol) (u : Node) → From u.number (subtree k p u)
unfolding subtree
subtree_from zero p u = refl
subtree_from (suc k) p u =
    let below : List Event = events_below (subtree k p) p u (action_at p u.line) in
    let e : suc u.number ≡ u.number + 1 = omega arith in
    ap (λ (l : List ℕ). u.number ∷ l)
    (below_from (subtree k p) (subtree_from k p) p u (action_at p u.line) ∙ ap (λ n. range_with_len n (length (nodes_in below))) e)

-- the scan stops at the first event that offends

scan_refused : (p : Protocol) (bench : ℕ) (es : List Event) (c : Certificate) (f : Fault) → scan p bench es c ≡ Err f → first_offence bench es ≡ Some f
unfolding scan
scan_refused p bench [] c f e = absurd (let z : ◌≡◌ {A = ℕ} 0 1 = cc in omega arith)
scan_refused p bench (x ∷ es) c f e = go (offence bench x) e (scan_refused p bench es (noted_event p x c) f)
  where
    go : (o : Option Fault) → or_fault o (scan p bench es (noted_event p x c)) ≡ Err f → (scan p bench es (noted_event p x c) ≡ Err f → first_offence bench es ≡ Some f) → option_or o (first_offence bench es) ≡ Some f
    go None h ih = ih h
    go (Some g) h ih = let q : g ≡ f = cc in ap Some q

refused_scan : (p : Protocol) (bench : ℕ) (es : List Event) (c : Certificate) (f : Fault) → first_offence bench es ≡ Some f → scan p bench es c ≡ Err f
unfolding scan
refused_scan p bench [] c f e = absurd (let z : ◌≡◌ {A = ℕ} 0 1 = cc in omega arith)
refused_scan p bench (x ∷ es) c f e = go (offence bench x) e (refused_scan p bench es (noted_event p x c) f)
  where
    go : (o : Option Fault) → option_or o (first_offence bench es) ≡ Some f → (first_offence bench es ≡ Some f → scan p bench es (noted_event p x c) ≡ Err f) → or_fault o (scan p bench es (noted_event p x c)) ≡ Err f
    go None h ih = ih h
    go (Some g) h ih = let q : g ≡ f = cc in ap Err q

scan_passed : (p : Protocol) (bench : ℕ) (es : List Event) (c d : Certificate) → scan p bench es c ≡ Ok d → first_offence bench es ≡ None
scan_passed p bench es c d e = go (first_offence bench es) refl
  where
    go : (o : Option Fault) → first_offence bench es ≡ o → o ≡ None
    go None h = refl
    go (Some f) h = absurd (let k = refused_scan p bench es c f h in let z : ◌≡◌ {A = ℕ} 0 1 = cc in omega arith)

-- what the nodes are noted to

noted_count : (p : Protocol) (us : List Node) (c : Certificate) → (noted_all p us c).count ≡ c.count + length us
noted_count p [] c = sym (add-zero c.count)
noted_count p (u ∷ us) c = let ih = noted_count p us (noted p u c) in omega arith

or_assoc : (a b c : Option ℕ) → option_or (option_or a b) c ≡ option_or a (option_or b c)
or_assoc None b c = refl
or_assoc (Some x) b c = refl

or_none : (a : Option ℕ) → option_or a None ≡ a
or_none None = refl
or_none (Some x) = refl

module _ (p : Protocol) (first : Certificate → Option ℕ) (test : Node → Bool) (step : (u : Node) (c : Certificate) → first (noted p u c) ≡ option_or (first c) (noted_number (test u) u.number)) where
  noted_first : (us : List Node) (c : Certificate) → first (noted_all p us c) ≡ option_or (first c) (first_number test us)
  noted_first [] c = sym (or_none (first c))
  noted_first (u ∷ us) c =
      noted_first us (noted p u c)
      ∙ ap (λ o. option_or o (first_number test us)) (step u c)
      ∙ or_assoc (first c) (noted_number (test u) u.number) (first_number test us)

pub read_off : AlwaysReadOff
unfolding certify events
read_off p bench =
    record {
      numbers = subtree_from p.script.lines p (root p);
      refused = λ f. (scan_refused p bench (events p) (blank p) f, refused_scan p bench (events p) (blank p) f);
      built = λ c e.
          let b = (certify_built p bench c e).certificate in (
            scan_passed p bench (events p) (blank p) c e,
            ap (λ (x : Certificate). x.count) b ∙ noted_count p (nodes p) (blank p) ∙ zero-add (length (nodes p)),
            ap (λ (x : Certificate). x.wrong) b ∙ noted_first p (λ x. x.wrong) (is_wrong p) (λ u x. refl) (nodes p) (blank p),
            ap (λ (x : Certificate). x.leaking) b ∙ noted_first p (λ x. x.leaking) (λ u. leaks p u.rows) (λ u x. refl) (nodes p) (blank p),
          );
    }
