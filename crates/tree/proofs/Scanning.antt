-- The certificate that a walk leaves is what the events are scanned to.
use Rattle.std.proofs.Common.{◌≡◌, ℕ, suc, List, Ok, Err, Option, Result, sym, refl, ap, ◌∙◌}
use Rattle.script.specs.Faults.{Fault}
use Rattle.protocol.specs.Machine.{Protocol, inputs}
use Rattle.protocol.specs.Tree as tree
use Rattle.protocol.specs.Tree.{Event, noted, noted_event, or_fault, scan}
use Rattle.tree.specs.declared.certificate.Certificate.{Certificate}
use Rattle.tree.specs.Certificates.{view}
use Rattle.tree.specs.Walks.{Walked, over, refused, visited, notes}

-- what is left of a walk: the certificate, or the refusal
abbrev pub left_by : {A : Type 0} → Result ℕ Fault → A → Result A Fault
left_by (Ok n) c = Ok c
left_by (Err f) c = Err f

module _ (p : Protocol) (bench : ℕ) where
  pub walked_scan : (es : List Event) (count : ℕ) (before after : Certificate) (answer : Result ℕ Fault) → Walked (notes p) bench es count before after answer → before.nodes ≡ count
      → left_by answer (view (inputs p) after) ≡ scan p bench es (view (inputs p) before)
  unfolding scan
  walked_scan _ _ _ _ _ (over k c) e = refl
  walked_scan _ _ _ _ _ (refused x es k c f o) e = sym (ap (λ (t : Option Fault). or_fault t (scan p bench es (noted_event p x (view (inputs p) c)))) o)
  walked_scan _ _ _ _ _ (visited u es before between after answer o h w) e =
      let n : view (inputs p) between ≡ noted p u (view (inputs p) before) = h e in
      walked_scan es (suc u.number) between after answer w (ap (λ (c : tree.Certificate). c.count) n ∙ ap suc e)
      ∙ ap (scan p bench es) n
      ∙ sym (ap (λ (t : Option Fault). or_fault t (scan p bench es (noted p u (view (inputs p) before)))) o)
