-- Classes: one class is one number of dealings for every trace.
use Rattle.std.proofs.Common.{◌≡◌, ℕ, ◌<◌, Bool, true, false, cond, ◌&&◌, [], Ok, sym, refl, ap, ◌∙◌, subst, arith}
use Rattle.std.specs.List.{AllByRecursion}
use Rattle.std.proofs.ByRecursion.{All-weaker}
use Rattle.std.proofs.lemmas.Bool.{false≢true, and_parts, and_from}
use Rattle.protocol.specs.Machine.{Protocol, LawfulProtocol, inputs, action_at, Trace, same_trace, is_result, ends_with, dealings}
use Rattle.protocol.specs.States.{total_of}
use Rattle.protocol.specs.Tree.{Node, nodes, events, root, Certificate, certify, class, blank}
use Rattle.protocol.specs.Promises.{Classes}
use Rattle.protocol.proofs.Sums.{sum_by_all}
use Rattle.protocol.proofs.Same.{same_trace_refl, same_trace_true, false_from}
use Rattle.protocol.proofs.TreeSum.{Single, run_at, met_at}
use Rattle.protocol.proofs.Sole.{Likeness, Foreign, Sole, sole_node}
use Rattle.protocol.proofs.Reached.{root_on, single_result, ways_tree, met_total}
use Rattle.protocol.proofs.Scan.{Built, certify_built}
use Rattle.protocol.proofs.Divided.{Naming, OneTotal, naming_all, class_totals, totals_class, blank_class, blank_naming}

abbrev ResultAt : Protocol → Node → Type 0
ResultAt p u = is_result (action_at p u.line) ≡ true

-- result nodes with one trace
abbrev OneEnd : Protocol → Node → Node → Type 0
OneEnd p v u = ResultAt p v × (v.trace ≡ u.trace)

one_end : (p : Protocol) → Likeness p (ResultAt p) (OneEnd p)
one_end p =
    record {
      one_trace = λ v u h. h.1;
      earlier = λ u v g l h. false≢true (sym g ∙ h.0);
      later = λ u v w g l h. false≢true (sym g ∙ w);
    }

single_ends : (p : Protocol) (t : Trace) → Single p (ends_with p t)
single_ends p t =
    single_result p (ends_with p t) (λ r e. (and_parts (is_result (action_at p r.line)) (same_trace r.trace t) e).0)

ended_weight : (p : Protocol) (b : ℕ) (t : Trace) (v : Node) → met_at p b (ends_with p t) v ≡ cond (is_result (action_at p v.line) && same_trace v.trace t) (total_of b v.rows) 0
ended_weight p b t v = met_total p b (ends_with p t) v (is_result (action_at p v.line) && same_trace v.trace t) (λ a. refl)

module _ (p : Protocol) (ok : LawfulProtocol p) where
  -- the dealings with the trace of a result node are its total
  dealt_total : (b : ℕ) → b < inputs p → (u : Node) → Sole (ResultAt p) (OneEnd p) (nodes p) u → ResultAt p u → dealings p b u.trace ≡ total_of b u.rows
  dealt_total b h u sole e =
      ways_tree p ok b h (ends_with p u.trace) (single_ends p u.trace)
      ∙ sole e (met_at p b (ends_with p u.trace)) foreign
      ∙ ended_weight p b u.trace u
      ∙ ap (λ t. cond t (total_of b u.rows) 0)
      (and_from (is_result (action_at p u.line)) (same_trace u.trace u.trace) e (same_trace_refl u.trace))
    where
      foreign : Foreign (OneEnd p) u (met_at p b (ends_with p u.trace))
      foreign v differ =
          met_total p b (ends_with p u.trace) v false
          (λ a. false_from (ends_with p u.trace (run_at v a []))
          (λ f.
          let k = and_parts (is_result (action_at p v.line)) (same_trace v.trace u.trace) f in
          differ (k.0, same_trace_true v.trace u.trace k.1)))

  sole_ends : AllByRecursion (Sole (ResultAt p) (OneEnd p) (nodes p)) (nodes p)
  unfolding events
  sole_ends = sole_node p ok (ResultAt p) (OneEnd p) (one_end p) p.script.lines (root p) (root_on p ok)

  pub totals_from_dealings : (b d : ℕ) → b < inputs p → d < inputs p → ((t : Trace) → dealings p b t ≡ dealings p d t) → AllByRecursion (OneTotal p b d) (nodes p)
  totals_from_dealings b d h k e =
      All-weaker (Sole (ResultAt p) (OneEnd p) (nodes p)) (OneTotal p b d)
      (λ u sole r. sym (dealt_total b h u sole r) ∙ e u.trace ∙ dealt_total d k u sole r)
      (nodes p) sole_ends

  pub dealings_from_totals : (b d : ℕ) → b < inputs p → d < inputs p → AllByRecursion (OneTotal p b d) (nodes p) → (t : Trace) → dealings p b t ≡ dealings p d t
  dealings_from_totals b d h k all t =
      ways_tree p ok b h (ends_with p t) (single_ends p t)
      ∙ sum_by_all (met_at p b (ends_with p t)) (met_at p d (ends_with p t)) (nodes p)
      (All-weaker (OneTotal p b d) (λ v. met_at p b (ends_with p t) v ≡ met_at p d (ends_with p t) v) same (nodes p) all)
      ∙ sym (ways_tree p ok d k (ends_with p t) (single_ends p t))
    where
      same : (v : Node) → OneTotal p b d v → met_at p b (ends_with p t) v ≡ met_at p d (ends_with p t) v
      same v e =
          ended_weight p b t v ∙ go (is_result (action_at p v.line)) e ∙ sym (ended_weight p d t v)
        where
          go : (x : Bool) → (x ≡ true → total_of b v.rows ≡ total_of d v.rows) → cond (x && same_trace v.trace t) (total_of b v.rows) 0 ≡ cond (x && same_trace v.trace t) (total_of d v.rows) 0
          go true f = ap (λ k. cond (same_trace v.trace t) k 0) (f refl)
          go false f = refl

  pub one_class : (bench : ℕ) (c : Certificate) → certify p bench ≡ Ok c → (b d : ℕ) → b < inputs p → d < inputs p → class c b ≡ class c d → AllByRecursion (OneTotal p b d) (nodes p)
  one_class bench c e b d h k f =
      let built = certify_built p bench c e in
      (class_totals p (nodes p) (blank p) b d h k
      (ap (λ x. class x b) (sym built.certificate) ∙ f ∙ ap (λ x. class x d) built.certificate)).1

pub classes : Classes
classes p ok bench c e =
    record {
      alike = λ b d h k. (
        (λ f. dealings_from_totals p ok b d h k (one_class p ok bench c e b d h k f)),
        (λ f.
            ap (λ x. class x b) built.certificate
            ∙ totals_class p (nodes p) (blank p) b d h k (blank_class p b h ∙ sym (blank_class p d k)) (totals_from_dealings p ok b d h k f)
            ∙ ap (λ x. class x d) (sym built.certificate)),
      );
      named = λ b h. naming.named b h;
      least = λ b d h k f. (let l = naming.below d k in omega arith);
    }
  where
    built : Built p (events p) (blank p) c
    built = certify_built p bench c e

    naming : Naming (inputs p) c.classes
    naming =
        subst (λ (x : Certificate). Naming (inputs p) x.classes) (sym built.certificate)
        (naming_all p (nodes p) (blank p) (blank_naming p))
