-- A tree that is built: no event offends, and the certificate is what all its nodes were noted to.
use Rattle.std.proofs.Common.{◌≡◌, ℕ, Bool, true, false, not, List, [], ◌∷◌, ◌++◌, is_some, Some, None, Ok, Err, Option, Result, sym, refl, ap, ◌∙◌, arith}
use Rattle.std.specs.Option.{option_or}
use Rattle.std.specs.List.{AllByRecursion}
use Rattle.std.proofs.lemmas.Bool.{false≢true, and_parts, and_from, not-true, not_from_false}
use Rattle.script.specs.Faults.{Fault}
use Rattle.protocol.specs.Machine.{Protocol}
use Rattle.protocol.specs.States.{leaks}
use Rattle.protocol.specs.Tree.{Node, Event, made, missing, nodes_in, nodes, events, offence, Certificate, noted, noted_event, noted_number, is_wrong, or_fault, scan, certify, blank, faultless}

-- the certificate after all these nodes
abbrev pub noted_all : Protocol → List Node → Certificate → Certificate
noted_all p [] c = c
noted_all p (u ∷ us) c = noted_all p us (noted p u c)

abbrev pub IsMade : Event → Type 0
IsMade (made u) = Unit
IsMade (missing l k) = ⊥

pub record Built (p : Protocol) (es : List Event) (c d : Certificate) : Type 0 where
  pub certificate : d ≡ noted_all p (nodes_in es) c
  pub made_all : AllByRecursion IsMade es

scan_built : (p : Protocol) (bench : ℕ) (es : List Event) (c d : Certificate) → scan p bench es c ≡ Ok d → Built p es c d
unfolding scan
scan_built p bench [] c d e = record { certificate = (let f : c ≡ d = cc in sym f); made_all = tt }
scan_built p bench (missing l k ∷ es) c d e = absurd (let z : ◌≡◌ {A = ℕ} 0 1 = cc in omega arith)
scan_built p bench (made u ∷ es) c d e = go (offence bench (made u)) e (scan_built p bench es (noted p u c) d)
  where
    go : (o : Option Fault) → or_fault o (scan p bench es (noted p u c)) ≡ Ok d → (scan p bench es (noted p u c) ≡ Ok d → Built p es (noted p u c) d) → Built p (made u ∷ es) c d
    go None f ih = let h = ih f in record { certificate = h.certificate; made_all = (tt, h.made_all) }
    go (Some x) f ih = absurd (let z : ◌≡◌ {A = ℕ} 0 1 = cc in omega arith)

-- events one after the other: the scan goes on where the first part is passed
abbrev pub scan_on : Protocol → ℕ → List Event → Result Certificate Fault → Result Certificate Fault
scan_on p bench es (Ok c) = scan p bench es c
scan_on p bench es (Err f) = Err f

pub scan_append : (p : Protocol) (bench : ℕ) (es fs : List Event) (c : Certificate) → scan p bench (es ++ fs) c ≡ scan_on p bench fs (scan p bench es c)
unfolding scan
scan_append p bench [] fs c = refl
scan_append p bench (e ∷ es) fs c = go (offence bench e) (scan_append p bench es fs (noted_event p e c))
  where
    go : (o : Option Fault) → scan p bench (es ++ fs) (noted_event p e c) ≡ scan_on p bench fs (scan p bench es (noted_event p e c)) → or_fault o (scan p bench (es ++ fs) (noted_event p e c)) ≡ scan_on p bench fs (or_fault o (scan p bench es (noted_event p e c)))
    go None ih = ih
    go (Some f) ih = refl

pub certify_built : (p : Protocol) (bench : ℕ) (c : Certificate) → certify p bench ≡ Ok c → Built p (events p) (blank p) c
unfolding certify
certify_built p bench c e = scan_built p bench (events p) (blank p) c e

-- the first node that passes a test, as a certificate notes it
module _ (p : Protocol) (first : Certificate → Option ℕ) (test : Node → Bool) (step : (u : Node) (c : Certificate) → first (noted p u c) ≡ option_or (first c) (noted_number (test u) u.number)) where
  none_before : (o : Option ℕ) (u : Node) → is_some (option_or o (noted_number (test u) u.number)) ≡ false → (is_some o ≡ false) × (test u ≡ false)
  none_before None u e = (refl, go (test u) e)
    where
      go : (t : Bool) → is_some (noted_number t u.number) ≡ false → t ≡ false
      go true f = absurd (false≢true (sym f))
      go false f = refl
  none_before (Some x) u e = absurd (false≢true (sym e))

  none_after : (o : Option ℕ) (u : Node) → is_some o ≡ false → test u ≡ false → is_some (option_or o (noted_number (test u) u.number)) ≡ false
  none_after None u e f = ap (λ t. is_some (noted_number t u.number)) f
  none_after (Some x) u e f = absurd (false≢true (sym e))

  pub none_noted : (us : List Node) (c : Certificate) → is_some (first (noted_all p us c)) ≡ false → (is_some (first c) ≡ false) × AllByRecursion (λ u. test u ≡ false) us
  none_noted [] c e = (e, tt)
  none_noted (u ∷ us) c e =
      let ih = none_noted us (noted p u c) e in
      let h = none_before (first c) u (sym (ap is_some (step u c)) ∙ ih.0) in
      (h.0, (h.1, ih.1))

  pub noted_none : (us : List Node) (c : Certificate) → is_some (first c) ≡ false → AllByRecursion (λ u. test u ≡ false) us → is_some (first (noted_all p us c)) ≡ false
  noted_none [] c e h = e
  noted_none (u ∷ us) c e h =
      noted_none us (noted p u c) (ap is_some (step u c) ∙ none_after (first c) u e h.0) h.1

-- a built tree is certified exactly when no node is wrong and none leaks
pub record Faultless (p : Protocol) : Type 0 where
  pub right : AllByRecursion (λ u. is_wrong p u ≡ false) (nodes p)
  pub tight : AllByRecursion (λ u. leaks p u.rows ≡ false) (nodes p)

pub faultless_nodes : (p : Protocol) (bench : ℕ) (c : Certificate) → certify p bench ≡ Ok c → faultless c ≡ true → Faultless p
faultless_nodes p bench c e f =
    let built = certify_built p bench c e in
    let h = and_parts (not (is_some c.wrong)) (not (is_some c.leaking)) f in
    record {
      right = (none_noted p (λ x. x.wrong) (is_wrong p) (λ u x. refl) (nodes p) (blank p)
          (sym (ap (λ x. is_some x.wrong) built.certificate) ∙ not-true (is_some c.wrong) h.0)).1;
      tight = (none_noted p (λ x. x.leaking) (λ u. leaks p u.rows) (λ u x. refl) (nodes p) (blank p)
          (sym (ap (λ x. is_some x.leaking) built.certificate) ∙ not-true (is_some c.leaking) h.1)).1;
    }

pub nodes_faultless : (p : Protocol) (bench : ℕ) (c : Certificate) → certify p bench ≡ Ok c → Faultless p → faultless c ≡ true
nodes_faultless p bench c e f =
    let built = certify_built p bench c e in
    and_from (not (is_some c.wrong)) (not (is_some c.leaking))
    (not_from_false (is_some c.wrong) (ap (λ x. is_some x.wrong) built.certificate
    ∙ noted_none p (λ x. x.wrong) (is_wrong p) (λ u x. refl) (nodes p) (blank p) refl f.right))
    (not_from_false (is_some c.leaking) (ap (λ x. is_some x.leaking) built.certificate
    ∙ noted_none p (λ x. x.leaking) (λ u. leaks p u.rows) (λ u x. refl) (nodes p) (blank p) refl f.tight))
