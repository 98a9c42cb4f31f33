-- Runs: what a run passes is what it comes to after some number of steps.
use Rattle.std.proofs.Common.{◌≡◌, ℕ, zero, suc, ◌+◌, ◌<◌, ◌≤◌, Bool, true, false, cond, ◌&&◌, ltb, List, [], ◌∷◌, ◌++◌, length, Some, None, Option, sym, refl, ap, ◌∙◌, subst, inl, inr, arith, ltb-true}
use Rattle.std.specs.List.{AllByRecursion}
use Rattle.std.proofs.lemmas.Bool.{false≢true, and_parts, and_from, or_left, or_right, or_cases, cases_lt, cases_eq}
use Rattle.script.specs.Model.{Action, permute, shuffle, turn, committed, opened, none, LawfulAction}
use Rattle.protocol.specs.Machine.{Protocol, LawfulProtocol, action_at, Mixing, permuting, shuffling, moved, marks_at, target, Run, drawn, branched, acted, and_then, advanced, spent, or_passes, passes, sum_below, count, counts, one_if}
use Rattle.protocol.proofs.TreeSum.{OnScript, lawful_at, onward}
use Rattle.protocol.proofs.Reached.{acted_onward}

abbrev step : Protocol → Run → Option Run
step p r = acted p r (action_at p r.line)

pub passes_from : (k : ℕ) (p : Protocol) (test : Run → Bool) (r q : Run) → advanced k p r ≡ Some q → spent q.draws ≡ true → test q ≡ true → (m : ℕ) → k < m → passes m p test r ≡ true
unfolding advanced passes
passes_from k p test r q e s t zero h = absurd (omega arith)
passes_from zero p test r q e s t (suc m) h =
    let f : r ≡ q = cc in
    or_left (spent r.draws && test r) (or_passes (step p r) (passes m p test))
    (subst (λ (x : Run). (spent x.draws && test x) ≡ true) (sym f) (and_from (spent q.draws) (test q) s t))
passes_from (suc k) p test r q e s t (suc m) h =
    or_right (spent r.draws && test r) (or_passes (step p r) (passes m p test))
    (go (step p r) e (λ x f. passes_from k p test x q f s t m (omega arith)))
  where
    go : (o : Option Run) → and_then o (advanced k p) ≡ Some q → ((x : Run) → advanced k p x ≡ Some q → passes m p test x ≡ true) → or_passes o (passes m p test) ≡ true
    go None f ih = absurd (let z : ◌≡◌ {A = ℕ} 0 1 = cc in omega arith)
    go (Some x) f ih = ih x f

pub record Passed (p : Protocol) (test : Run → Bool) (r : Run) : Type 0 where
  pub steps : ℕ
  pub at : Run
  pub came : advanced steps p r ≡ Some at
  pub used_up : spent at.draws ≡ true
  pub meets : test at ≡ true

pub passes_to : (m : ℕ) (p : Protocol) (test : Run → Bool) (r : Run) → passes m p test r ≡ true → Passed p test r
unfolding advanced passes
passes_to zero p test r e = absurd (false≢true e)
passes_to (suc m) p test r e =
    elim (or_cases (spent r.draws && test r) (or_passes (step p r) (passes m p test)) e) [
      | inl f ↦
          let k = and_parts (spent r.draws) (test r) f in
          record { steps = 0; at = r; came = refl; used_up = k.0; meets = k.1 }
      | inr f ↦ go (step p r) refl f (λ x. passes_to m p test x)
    ]
  where
    go : (o : Option Run) → step p r ≡ o → or_passes o (passes m p test) ≡ true → ((x : Run) → passes m p test x ≡ true → Passed p test x) → Passed p test r
    go None g f ih = absurd (false≢true f)
    go (Some x) g f ih =
        let h = ih x f in
        record {
          steps = suc h.steps;
          at = h.at;
          came = ap (λ o. and_then o (advanced h.steps p)) g ∙ h.came;
          used_up = h.used_up;
          meets = h.meets;
        }

-- the draws that a run uses up
abbrev Small : ℕ → Type 0
Small d = d < 65536

pub record Used (p : Protocol) (k : ℕ) (r q : Run) : Type 0 where
  pub later : r.line + k ≤ q.line
  pub on : OnScript p q.line
  pub few : length r.draws ≤ length q.draws + k
  pub small : AllByRecursion Small q.draws → AllByRecursion Small r.draws

drawn_used : (m : Mixing) (r q : Run) (ds : List ℕ) → m.total ≤ 65535 → drawn m r ds ≡ Some q → (length ds ≤ length q.draws + 1) × (AllByRecursion Small q.draws → AllByRecursion Small ds)
drawn_used m r q [] h e = absurd (let z : ◌≡◌ {A = ℕ} 0 1 = cc in omega arith)
drawn_used m r q (d ∷ ds) h e = go (ltb d m.total) refl e
  where
    go : (t : Bool) → ltb d m.total ≡ t → cond t (Some (record { line = m.next; cards = moved m d r.cards; trace = r.trace; draws = ds })) None ≡ Some q → (suc (length ds) ≤ length q.draws + 1) × (AllByRecursion Small q.draws → AllByRecursion Small (d ∷ ds))
    go true l f =
        let g : record { line = m.next; cards = moved m d r.cards; trace = r.trace; draws = ds } ≡ q = cc in
        let same : ds ≡ q.draws = ap (λ (x : Run). x.draws) g in
        let k = ltb-true d m.total l in
        (let n = ap length same in omega arith, λ all. (omega arith, subst (AllByRecursion Small) (sym same) all))
    go false l f = absurd (let z : ◌≡◌ {A = ℕ} 0 1 = cc in omega arith)

kept_used : (r q : Run) → r.draws ≡ q.draws → (length r.draws ≤ length q.draws + 1) × (AllByRecursion Small q.draws → AllByRecursion Small r.draws)
kept_used r q e = (let n = ap length e in omega arith, λ all. subst (AllByRecursion Small) (sym e) all)

branched_used : (r q : Run) (marks : List ℕ) (o : Option ℕ) → branched r marks o ≡ Some q → r.draws ≡ q.draws
branched_used r q marks None e = absurd (let z : ◌≡◌ {A = ℕ} 0 1 = cc in omega arith)
branched_used r q marks (Some t) e =
    let g : record { line = t; cards = r.cards; trace = r.trace ++ marks ∷ []; draws = r.draws } ≡ q = cc in
    ap (λ (x : Run). x.draws) g

step_used : (p : Protocol) (r q : Run) (action : Action) → LawfulAction p.script.cards p.script.lines r.line action → acted p r action ≡ Some q → (length r.draws ≤ length q.draws + 1) × (AllByRecursion Small q.draws → AllByRecursion Small r.draws)
step_used p r q (permute images next) law e =
    let g : record { line = next; cards = moved (permuting images next) 0 r.cards; trace = r.trace; draws = r.draws } ≡ q = cc in
    kept_used r q (ap (λ (x : Run). x.draws) g)
step_used p r q (shuffle total next) law e =
    drawn_used (shuffling p r.line total next) r q r.draws law.1.0 e
step_used p r q (turn places branches) law e =
    kept_used r q (branched_used r q (marks_at places r.cards) (target (marks_at places r.cards) branches) e)
step_used p r q (committed left right) law e = absurd (let z : ◌≡◌ {A = ℕ} 0 1 = cc in omega arith)
step_used p r q (opened value) law e = absurd (let z : ◌≡◌ {A = ℕ} 0 1 = cc in omega arith)
step_used p r q none law e = absurd law

pub used : (p : Protocol) → LawfulProtocol p → (k : ℕ) (r q : Run) → OnScript p r.line → advanced k p r ≡ Some q → Used p k r q
unfolding advanced
used p ok zero r q on e =
    let f : r ≡ q = cc in
    let l : r.line ≡ q.line = ap (λ (x : Run). x.line) f in
    let s : r.draws ≡ q.draws = ap (λ (x : Run). x.draws) f in
    record {
      later = omega arith;
      on = subst (OnScript p) l on;
      few = (let n = ap length s in omega arith);
      small = λ all. subst (AllByRecursion Small) (sym s) all;
    }
used p ok (suc k) r q on e = go (step p r) refl e (λ x. used p ok k x q)
  where
    go : (o : Option Run) → step p r ≡ o → and_then o (advanced k p) ≡ Some q → ((x : Run) → OnScript p x.line → advanced k p x ≡ Some q → Used p k x q) → Used p (suc k) r q
    go None g f ih = absurd (let z : ◌≡◌ {A = ℕ} 0 1 = cc in omega arith)
    go (Some x) g f ih =
        let law = lawful_at p ok r.line on in
        let w = acted_onward p r x (action_at p r.line) law g in
        let s = step_used p r x (action_at p r.line) law g in
        let h = ih x (onward p r.line x.line on w) f in
        record {
          later = (let a = w.later in let b = h.later in omega arith);
          on = h.on;
          few = (let a = s.0 in let b = h.few in omega arith);
          small = λ all. s.1 (h.small all);
        }

-- where no list passes a test, none does

sum_nothing : (n : ℕ) (f : ℕ → ℕ) → sum_below n f ≡ 0 → (d : ℕ) → d < n → f d ≡ 0
unfolding sum_below
sum_nothing zero f e d h = absurd (omega arith)
sum_nothing (suc n) f e d h =
    elim (cases_lt d n) [
      | inl l ↦ sum_nothing n f (omega arith) d l
      | inr l ↦ let q : d ≡ n = omega arith in rw q (omega arith)
    ]

count_nothing : (n m : ℕ) (test : List ℕ → Bool) → count n m test ≡ 0 → (ds : List ℕ) → length ds ≡ m → AllByRecursion (λ d. d < n) ds → test ds ≡ false
unfolding count
count_nothing n zero test e [] l all = go (test []) e
  where
    go : (t : Bool) → one_if t ≡ 0 → t ≡ false
    go true f = absurd (omega arith)
    go false f = refl
count_nothing n zero test e (d ∷ ds) l all = absurd (omega arith)
count_nothing n (suc m) test e [] l all = absurd (omega arith)
count_nothing n (suc m) test e (d ∷ ds) l all =
    count_nothing n m (λ xs. test (d ∷ xs)) (sum_nothing n (λ x. count n m (λ xs. test (x ∷ xs))) e d all.0) ds (omega arith) all.1

pub counts_nothing : (n m : ℕ) (test : List ℕ → Bool) → counts n m test ≡ 0 → (ds : List ℕ) → length ds ≤ m → AllByRecursion (λ d. d < n) ds → test ds ≡ false
unfolding counts
counts_nothing n zero test e ds l all = count_nothing n zero test e ds (omega arith) all
counts_nothing n (suc m) test e ds l all =
    elim (cases_eq (length ds) (suc m)) [
      | inl q ↦ count_nothing n (suc m) test (omega arith) ds q all
      | inr ne ↦ counts_nothing n m test (omega arith) ds (omega (arith, ne)) all
    ]
