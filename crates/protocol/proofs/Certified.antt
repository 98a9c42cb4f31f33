-- A built tree is certified exactly when every dealing yields the function's value and inputs that must look alike
-- reach everything by equally many draw lists.
use Rattle.std.proofs.Common.{◌≡◌, ℕ, zero, suc, ◌+◌, ◌*◌, ◌<◌, ◌≤◌, Bool, true, false, cond, not, ◌&&◌, eqb, ltb, List, [], ◌∷◌, length, is_some, Some, None, Option, sym, refl, ap, ◌∙◌, subst, inl, inr, le_refl, mul-zero, mul-one, arith, ltb-false, le-ltb, eq-eqb, eqb-true}
use Rattle.std.specs.Option.{option_or}
use Rattle.std.specs.List.{AllByRecursion}
use Rattle.std.proofs.ByRecursion.{All-weaker}
use Rattle.std.proofs.lemmas.Bool.{false≢true, and_parts, and_from, and_left, and_right, and_cases, or_parts, or_from, not-true, not-false, not_from_true, cases_Bool, cases_order, cases_lt}
use Rattle.cards.specs.Decks.{bit_reading}
use Rattle.cards.specs.declared.reading.Reading.{Reading}
use Rattle.cards.specs.declared.reading.Reading.TheVariants.{Zero, One, Neither}
use Rattle.script.specs.Model.{Action}
use Rattle.protocol.specs.Machine.{Protocol, LawfulProtocol, inputs, value, action_at, Trace, same_trace, Run, begun, spent, run_passes, is_result, given, stands, ways, one_if}
use Rattle.protocol.specs.States.{Row, weight, cards_of, total_of, any_below, must_look_alike, leaks, same_reading, errs, first_input, first_wrong}
use Rattle.protocol.specs.Tree.{Node, nodes, is_wrong}
use Rattle.protocol.specs.Promises.{DrawsCounted, Counted, Correct, Secret, CertifiedExactly}
use Rattle.protocol.proofs.Sums.{sum_by_all, sum_by_zero, all_zero, counts_none}
use Rattle.protocol.proofs.Same.{false_from}
use Rattle.protocol.proofs.TreeSum.{Single, run_at, met_at}
use Rattle.protocol.proofs.Nodes.{all_of}
use Rattle.protocol.proofs.Reached.{root_on, single_result, single_stands, ways_tree, met_total, node_by_node}
use Rattle.protocol.proofs.Scan.{faultless_nodes, nodes_faultless}
use Rattle.protocol.proofs.Runs.{passes_from, passes_to, Used, used, counts_nothing}

pub same_reading_true : (r s : Reading) → same_reading r s ≡ true → r ≡ s
same_reading_true Zero Zero e = refl
same_reading_true Zero One e = absurd (false≢true e)
same_reading_true Zero Neither e = absurd (false≢true e)
same_reading_true One Zero e = absurd (false≢true e)
same_reading_true One One e = refl
same_reading_true One Neither e = absurd (false≢true e)
same_reading_true Neither Zero e = absurd (false≢true e)
same_reading_true Neither One e = absurd (false≢true e)
same_reading_true Neither Neither e = refl

same_reading_refl : (r : Reading) → same_reading r r ≡ true
same_reading_refl Zero = refl
same_reading_refl One = refl
same_reading_refl Neither = refl

-- a row errs under no input

none_first : {X : Type 0} (o q : Option X) → is_some (option_or o q) ≡ false → (is_some o ≡ false) × (is_some q ≡ false)
none_first None q e = (refl, e)
none_first (Some x) q e = absurd (false≢true (sym e))

first_none : {X : Type 0} (o q : Option X) → is_some o ≡ false → is_some q ≡ false → is_some (option_or o q) ≡ false
first_none None q e f = f
first_none (Some x) q e f = absurd (false≢true (sym e))

some_if : {X : Type 0} (t : Bool) (x : X) → is_some (cond t (Some x) None) ≡ t
some_if true x = refl
some_if false x = refl

module _ (p : Protocol) (reading : Reading) (r : Row) where
  input_free : (k x : ℕ) → is_some (first_input p reading r x k) ≡ false → (b : ℕ) → x ≤ b → b < x + k → errs p reading r b ≡ false
  input_free zero x e b h l = absurd (omega arith)
  input_free (suc k) x e b h l =
      let both = none_first (cond (errs p reading r x) (Some (record { row = r; input = x; reading = reading })) None) (first_input p reading r (suc x) k) e in
      elim (cases_order x b) [
        | inl q ↦ subst (λ y. errs p reading r y ≡ false) q (sym (some_if (errs p reading r x) _) ∙ both.0)
        | inr o ↦ elim o [ inl m ↦ input_free k (suc x) both.1 b m (omega arith) | inr m ↦ absurd (omega arith) ]
      ]

  free_input : (k x : ℕ) → ((b : ℕ) → x ≤ b → b < x + k → errs p reading r b ≡ false) → is_some (first_input p reading r x k) ≡ false
  free_input zero x h = refl
  free_input (suc k) x h =
      first_none (cond (errs p reading r x) (Some (record { row = r; input = x; reading = reading })) None) (first_input p reading r (suc x) k)
      (some_if (errs p reading r x) _ ∙ h x (le_refl x) (omega arith))
      (free_input k (suc x) (λ b l m. h b (omega arith) (omega arith)))

-- no row of a result node errs
abbrev pub RightRow : Protocol → Action → Row → Type 0
RightRow p action r = (b : ℕ) → b < inputs p → errs p (given p.deck (cards_of p.script.cards r) action) r b ≡ false

abbrev pub RightAt : Protocol → Node → Type 0
RightAt p u = is_result (action_at p u.line) ≡ true → AllByRecursion (RightRow p (action_at p u.line)) u.rows

rows_right : (p : Protocol) (action : Action) (rows : List Row) → is_some (first_wrong p action rows) ≡ false → AllByRecursion (RightRow p action) rows
rows_right p action [] e = tt
rows_right p action (r ∷ rs) e =
    let both = none_first (first_input p (given p.deck (cards_of p.script.cards r) action) r 0 (inputs p)) (first_wrong p action rs) e in (
      (λ b h. input_free p (given p.deck (cards_of p.script.cards r) action) r (inputs p) 0 both.0 b (omega arith) (omega arith)),
      rows_right p action rs both.1,
    )

right_rows : (p : Protocol) (action : Action) (rows : List Row) → AllByRecursion (RightRow p action) rows → is_some (first_wrong p action rows) ≡ false
right_rows p action [] h = refl
right_rows p action (r ∷ rs) h =
    first_none (first_input p (given p.deck (cards_of p.script.cards r) action) r 0 (inputs p)) (first_wrong p action rs)
    (free_input p (given p.deck (cards_of p.script.cards r) action) r (inputs p) 0 (λ b l m. h.0 b (omega arith)))
    (right_rows p action rs h.1)

pub right_from : (p : Protocol) (u : Node) → is_wrong p u ≡ false → RightAt p u
right_from p u e f =
    rows_right p (action_at p u.line) u.rows
    (sym (ap (λ t. is_some (cond t (first_wrong p (action_at p u.line) u.rows) None)) f) ∙ e)

from_right : (p : Protocol) (u : Node) → RightAt p u → is_wrong p u ≡ false
from_right p u h = go (is_result (action_at p u.line)) h
  where
    go : (t : Bool) → (t ≡ true → AllByRecursion (RightRow p (action_at p u.line)) u.rows) → is_some (cond t (first_wrong p (action_at p u.line) u.rows) None) ≡ false
    go true h = right_rows p (action_at p u.line) u.rows (h refl)
    go false h = refl

-- a run at a result line that yields another value than the function's
abbrev bad : Protocol → ℕ → Run → Bool
bad p b r = is_result (action_at p r.line) && not (same_reading (given p.deck r.cards (action_at p r.line)) (bit_reading (value p b)))

single_bad : (p : Protocol) (b : ℕ) → Single p (bad p b)
single_bad p b =
    single_result p (bad p b)
    (λ r e. (and_parts (is_result (action_at p r.line)) (not (same_reading (given p.deck r.cards (action_at p r.line)) (bit_reading (value p b)))) e).0)

no_weight : (w : ℕ) (t : Bool) → (ltb 0 w && t) ≡ false → w * one_if t ≡ 0
no_weight w true e =
    elim (and_cases (ltb 0 w) true e) [
      | inl f ↦ let k = ltb-false 0 w f in omega arith
      | inr f ↦ absurd (false≢true (sym f))
    ]
no_weight w false e = mul-zero w

weight_no : (w : ℕ) (t : Bool) → w * one_if t ≡ 0 → (ltb 0 w && t) ≡ false
weight_no w true e = and_left (ltb 0 w) true (le-ltb 0 w (let k = mul-one w in omega arith))
weight_no w false e = and_right (ltb 0 w) false refl

module _ (p : Protocol) (b : ℕ) (h : b < inputs p) (u : Node) where
  abbrev differs : Row → Bool
  differs r = not (same_reading (given p.deck (cards_of p.script.cards r) (action_at p u.line)) (bit_reading (value p b)))

  bad_none : RightAt p u → met_at p b (bad p b) u ≡ 0
  bad_none right =
      sum_by_zero (λ r. weight b r * one_if (bad p b (run_at u (cards_of p.script.cards r) []))) u.rows
      (go (is_result (action_at p u.line)) right)
    where
      go : (t : Bool) → (t ≡ true → AllByRecursion (RightRow p (action_at p u.line)) u.rows) → AllByRecursion (λ r. weight b r * one_if (t && differs r) ≡ 0) u.rows
      go true f =
          All-weaker (RightRow p (action_at p u.line)) (λ r. weight b r * one_if (differs r) ≡ 0)
          (λ r k. no_weight (weight b r) (differs r) (k b h)) u.rows (f refl)
      go false f = all_of (λ r. weight b r * 0 ≡ 0) (λ r. mul-zero (weight b r)) u.rows

  none_bad : met_at p b (bad p b) u ≡ 0 → is_result (action_at p u.line) ≡ true → AllByRecursion (λ r. errs p (given p.deck (cards_of p.script.cards r) (action_at p u.line)) r b ≡ false) u.rows
  none_bad e f =
      All-weaker (λ r. weight b r * one_if (bad p b (run_at u (cards_of p.script.cards r) [])) ≡ 0)
      (λ r. errs p (given p.deck (cards_of p.script.cards r) (action_at p u.line)) r b ≡ false)
      (λ r k. weight_no (weight b r) (differs r) (sym (ap (λ t. weight b r * one_if (t && differs r)) f) ∙ k))
      u.rows (all_zero (λ r. weight b r * one_if (bad p b (run_at u (cards_of p.script.cards r) []))) u.rows e)

spent_nil : (ds : List ℕ) → spent ds ≡ true → ds ≡ []
spent_nil [] e = refl
spent_nil (d ∷ ds) e = absurd (false≢true e)

never_passes : (p : Protocol) (b : ℕ) (test : Run → Bool) → ways p b test ≡ 0 → (draws : List ℕ) → length draws ≤ p.script.lines → AllByRecursion (λ d. d < 65536) draws → run_passes p b test draws ≡ false
unfolding ways
never_passes p b test e draws few small = counts_nothing 65536 p.script.lines (run_passes p b test) e draws few small

no_ways : (p : Protocol) (b : ℕ) (test : Run → Bool) → ((draws : List ℕ) → run_passes p b test draws ≡ false) → ways p b test ≡ 0
unfolding ways
no_ways p b test h = counts_none 65536 p.script.lines (run_passes p b test) h

all_swap : {X : Type 0} (n : ℕ) (P : X → ℕ → Type 0) (xs : List X) → ((b : ℕ) → b < n → AllByRecursion (λ x. P x b) xs) → AllByRecursion (λ x. (b : ℕ) → b < n → P x b) xs
all_swap n P [] h = tt
all_swap n P (x ∷ xs) h = ((λ b l. (h b l).0), all_swap n P xs (λ b l. (h b l).1))

module _ (p : Protocol) (ok : LawfulProtocol p) where
  pub correct_from : AllByRecursion (λ u. is_wrong p u ≡ false) (nodes p) → Correct p
  correct_from right b h draws k r came empty result =
      elim (cases_Bool (same_reading (given p.deck r.cards (action_at p r.line)) (bit_reading (value p b)))) [
        | inl e ↦ same_reading_true (given p.deck r.cards (action_at p r.line)) (bit_reading (value p b)) e
        | inr e ↦ absurd (false≢true (sym never ∙ passed e))
      ]
    where
      way : Used p k (begun p b draws) r
      way = used p ok k (begun p b draws) r (root_on p ok) came

      small : AllByRecursion (λ d. d < 65536) draws
      small = way.small (subst (AllByRecursion (λ d. d < 65536)) (sym empty) tt)

      short : k < p.script.lines
      short = let a = way.later in let c = way.on.there in omega arith

      few : length draws ≤ p.script.lines
      few = let a = way.few in let c = ap length empty in let s = short in omega arith

      passed : same_reading (given p.deck r.cards (action_at p r.line)) (bit_reading (value p b)) ≡ false → run_passes p b (bad p b) draws ≡ true
      passed e =
          passes_from k p (bad p b) (begun p b draws) r came (ap spent empty)
          (and_from (is_result (action_at p r.line)) (not (same_reading (given p.deck r.cards (action_at p r.line)) (bit_reading (value p b)))) result (ap not e))
          p.script.lines short

      none : ways p b (bad p b) ≡ 0
      none =
          ways_tree p ok b h (bad p b) (single_bad p b)
          ∙ sum_by_zero (met_at p b (bad p b)) (nodes p)
          (All-weaker (λ u. is_wrong p u ≡ false) (λ u. met_at p b (bad p b) u ≡ 0) (λ u e. bad_none p b h u (right_from p u e)) (nodes p) right)

      never : run_passes p b (bad p b) draws ≡ false
      never = never_passes p b (bad p b) none draws few small

  pub from_correct : Correct p → AllByRecursion (λ u. is_wrong p u ≡ false) (nodes p)
  from_correct right =
      All-weaker (λ u. (b : ℕ) → b < inputs p → met_at p b (bad p b) u ≡ 0) (λ u. is_wrong p u ≡ false)
      (λ u h. from_right p u (λ f. all_swap (inputs p) (λ r b. errs p (given p.deck (cards_of p.script.cards r) (action_at p u.line)) r b ≡ false) u.rows (λ b l. none_bad p b l u (h b l) f)))
      (nodes p) (all_swap (inputs p) (λ u b. met_at p b (bad p b) u ≡ 0) (nodes p) each)
    where
      never : (b : ℕ) → b < inputs p → (draws : List ℕ) → run_passes p b (bad p b) draws ≡ false
      never b h draws =
          false_from (run_passes p b (bad p b) draws)
          (λ e.
          let q = passes_to p.script.lines p (bad p b) (begun p b draws) e in
          let both = and_parts (is_result (action_at p q.at.line)) (not (same_reading (given p.deck q.at.cards (action_at p q.at.line)) (bit_reading (value p b)))) q.meets in
          let f = right b h draws q.steps q.at q.came (spent_nil q.at.draws q.used_up) both.0 in
          false≢true (sym (not-true (same_reading (given p.deck q.at.cards (action_at p q.at.line)) (bit_reading (value p b))) both.1)
          ∙ ap (λ x. same_reading x (bit_reading (value p b))) f ∙ same_reading_refl (bit_reading (value p b))))

      each : (b : ℕ) → b < inputs p → AllByRecursion (λ u. met_at p b (bad p b) u ≡ 0) (nodes p)
      each b h =
          all_zero (met_at p b (bad p b)) (nodes p)
          (sym (ways_tree p ok b h (bad p b) (single_bad p b)) ∙ no_ways p b (bad p b) (never b h))

-- what the counts count
pub draws_counted : DrawsCounted
draws_counted p ok b test draws =
    record {
      passes = (
        (λ e.
            let q = passes_to p.script.lines p test (begun p b draws) e in
            (q.steps, q.at, q.came, spent_nil q.at.draws q.used_up, q.meets)),
        (λ h.
            let way = used p ok h.0 (begun p b draws) h.1 (root_on p ok) h.2 in
            passes_from h.0 p test (begun p b draws) h.1 h.2 (ap spent h.3) h.4 p.script.lines
            (let a = way.later in let c = way.on.there in omega arith)),
      );
      all_counted = λ e.
          let q = passes_to p.script.lines p test (begun p b draws) e in
          let way = used p ok q.steps (begun p b draws) q.at (root_on p ok) q.came in
          let none = spent_nil q.at.draws q.used_up in (
            (let a = way.later in let c = way.on.there in let f = way.few in let g = ap length none in omega arith),
            way.small (subst (AllByRecursion (λ d. d < 65536)) (sym none) tt),
          );
    }

-- leaking

none_below : (n : ℕ) (test : ℕ → Bool) → any_below n test ≡ false → (b : ℕ) → b < n → test b ≡ false
none_below zero test e b h = absurd (omega arith)
none_below (suc n) test e b h =
    let both = or_parts (any_below n test) (test n) e in
    elim (cases_lt b n) [
      | inl l ↦ none_below n test both.0 b l
      | inr l ↦ let q : n ≡ b = omega arith in ap test (sym q) ∙ both.1
    ]

below_none : (n : ℕ) (test : ℕ → Bool) → ((b : ℕ) → b < n → test b ≡ false) → any_below n test ≡ false
below_none zero test h = refl
below_none (suc n) test h =
    or_from (any_below n test) (test n) (below_none n test (λ b l. h b (omega arith))) (h n (omega arith))

-- inputs that must look alike have one total
abbrev pub TightAt : Protocol → Node → Type 0
TightAt p u = (b d : ℕ) → b < inputs p → d < inputs p → must_look_alike p b d ≡ true → total_of b u.rows ≡ total_of d u.rows

pub tight_from : (p : Protocol) (u : Node) → leaks p u.rows ≡ false → TightAt p u
tight_from p u e b d h k f =
    let x = none_below (inputs p) (λ b. any_below (inputs p) (λ c. must_look_alike p b c && not (eqb (total_of b u.rows) (total_of c u.rows)))) e b h in
    let y = none_below (inputs p) (λ c. must_look_alike p b c && not (eqb (total_of b u.rows) (total_of c u.rows))) x d k in
    elim (and_cases (must_look_alike p b d) (not (eqb (total_of b u.rows) (total_of d u.rows))) y) [
      | inl g ↦ absurd (false≢true (sym g ∙ f))
      | inr g ↦ eqb-true (total_of b u.rows) (total_of d u.rows) (not-false (eqb (total_of b u.rows) (total_of d u.rows)) g)
    ]

from_tight : (p : Protocol) (u : Node) → TightAt p u → leaks p u.rows ≡ false
from_tight p u t =
    below_none (inputs p) (λ b. any_below (inputs p) (λ c. must_look_alike p b c && not (eqb (total_of b u.rows) (total_of c u.rows))))
    (λ b h. below_none (inputs p) (λ c. must_look_alike p b c && not (eqb (total_of b u.rows) (total_of c u.rows)))
    (λ d k. elim (cases_Bool (must_look_alike p b d)) [
      | inl e ↦ and_right (must_look_alike p b d) (not (eqb (total_of b u.rows) (total_of d u.rows)))
          (not_from_true (eqb (total_of b u.rows) (total_of d u.rows)) (eq-eqb (total_of b u.rows) (total_of d u.rows) (t b d h k e)))
      | inr e ↦ and_left (must_look_alike p b d) (not (eqb (total_of b u.rows) (total_of d u.rows))) e
    ]))

stood_weight : (p : Protocol) (b l : ℕ) (t : Trace) (v : Node) → met_at p b (stands l t) v ≡ cond (eqb v.line l && same_trace v.trace t) (total_of b v.rows) 0
stood_weight p b l t v = met_total p b (stands l t) v (eqb v.line l && same_trace v.trace t) (λ a. refl)

module _ (p : Protocol) (ok : LawfulProtocol p) where
  pub secret_from : AllByRecursion (λ u. leaks p u.rows ≡ false) (nodes p) → Secret p
  secret_from tight b d h k e l t =
      ways_tree p ok b h (stands l t) (single_stands p ok l t)
      ∙ sum_by_all (met_at p b (stands l t)) (met_at p d (stands l t)) (nodes p)
      (All-weaker (λ u. leaks p u.rows ≡ false) (λ v. met_at p b (stands l t) v ≡ met_at p d (stands l t) v)
      (λ v f.
      stood_weight p b l t v
      ∙ ap (λ x. cond (eqb v.line l && same_trace v.trace t) x 0) (tight_from p v f b d h k e)
      ∙ sym (stood_weight p d l t v))
      (nodes p) tight)
      ∙ sym (ways_tree p ok d k (stands l t) (single_stands p ok l t))

  pub from_secret : Secret p → AllByRecursion (λ u. leaks p u.rows ≡ false) (nodes p)
  from_secret secret =
      All-weaker (λ u. (b : ℕ) → b < inputs p → Counted p b u) (λ u. leaks p u.rows ≡ false)
      (λ u c. from_tight p u (λ b d h k e. (c b h).total ∙ secret b d h k e u.line u.trace ∙ sym (c d k).total))
      (nodes p) (all_swap (inputs p) (λ u b. Counted p b u) (nodes p) (λ b h. node_by_node p ok b h))

pub certified_exactly : CertifiedExactly
certified_exactly p ok bench c e = (
  (λ f. let h = faultless_nodes p bench c e f in (correct_from p ok h.right, secret_from p ok h.tight)),
  (λ h. nodes_faultless p bench c e (record { right = from_correct p ok h.0; tight = from_secret p ok h.1 })),
)
