-- No path of a sheet that passes has a product above the limit.
use Rattle.std.proofs.Common.{◌≡◌, ℕ, zero, suc, ◌*◌, ◌<◌, ◌≤◌, Bool, true, false, cond, ◌&&◌, eqb, ltb, List, [], ◌∷◌, length, get_or, None, sym, refl, ap, ◌∙◌, subst, ⊎_elim, mul-le-mul_right, mul-one, arith}
use Rattle.std.proofs.lemmas.List.{get_or_push, get_or_append_left}
use Rattle.std.proofs.lemmas.Bool.{cases_Bool, cases_lt, cases_order, eqb-true, ne_eqb, ltb-false, or_cases, false≢true, cond-true, cond-false}
use Rattle.std.specs.List.{AllByRecursion}
use Rattle.script.specs.Model.{Action, Branch, permute, shuffle, turn, committed, opened, none, LawfulAction, LawfulBranch}
use Rattle.sheet.specs.Laws.{SmallProducts, CheckLaw}
use Rattle.sheet.specs.Lines.{line_count}
use Rattle.sheet.specs.Products.{Path, start, onward, total, shuffles, leads, targets, best, arrival, arrivals, greatest, limit}
use Rattle.sheet.specs.Scripts.{action, script_of, head}
use Rattle.sheet.specs.Verdicts.{verdict, product_fault}
use Rattle.sheet.specs.Acting.{nothing_early, nothing_late}
use Rattle.sheet.specs.CountingLemmas.{counted_sheet}
use Rattle.sheet.specs.Firsts.{first_none_each, given_none}
use Rattle.sheet.specs.Lawful.{lawful_script}
use Rattle.sheet.proofs.Multiplying.{arrivals_suc, length_arrivals, one_draw}
use Rattle.sheet.specs.Passed.{passed, frames_read}

target_onward : (lines l t next : ℕ) (bs : List Branch) → AllByRecursion (LawfulBranch lines l t) bs → targets bs next ≡ true → (l < next) × (next < lines)
target_onward lines l t next [] k e = absurd (false≢true e)
target_onward lines l t next (b ∷ bs) k e =
    ⊎_elim
    (λ p. let q = eqb-true b.target next p in (subst (λ x. l < x) q k.0.onward.later, subst (λ x. x < lines) q k.0.onward.there))
    (λ p. target_onward lines l t next bs k.1 p)
    (or_cases (eqb b.target next) (targets bs next) e)

leads_onward : (n lines l : ℕ) (a : Action) → LawfulAction n lines l a → (next : ℕ) → leads a next ≡ true → (l < next) × (next < lines)
leads_onward n lines l (permute images x) k next e =
    let q = eqb-true x next e in (subst (λ y. l < y) q k.1.later, subst (λ y. y < lines) q k.1.there)
leads_onward n lines l (shuffle draws x) k next e =
    let q = eqb-true x next e in (subst (λ y. l < y) q k.1.1.later, subst (λ y. y < lines) q k.1.1.there)
leads_onward n lines l (turn places branches) k next e = target_onward lines l (length places) next branches k.1.1 e
leads_onward n lines l (committed a b) k next e = absurd (false≢true e)
leads_onward n lines l (opened v) k next e = absurd (false≢true e)
leads_onward n lines l none k next e = absurd (false≢true e)

arrivals_at : (act : ℕ → Action) (n j : ℕ) → j < n → get_or (arrivals act n) j 0 ≡ arrival act j (arrivals act j)
arrivals_at act zero j l = absurd (omega arith)
arrivals_at act (suc n) j l =
    ⊎_elim
    (λ q. subst (λ k. get_or (arrivals act (suc n)) k 0 ≡ arrival act k (arrivals act k)) (sym q)
    (rw (arrivals_suc act n, get_or_push (arrivals act n) (arrival act n (arrivals act n)) 0 n (length_arrivals act n))))
    (⊎_elim
    (λ q. rw (arrivals_suc act n, get_or_append_left (arrivals act n) (arrival act n (arrivals act n) ∷ []) 0 j (rw (length_arrivals act n) q)) (arrivals_at act n j q))
    (λ q. absurd (omega arith)))
    (cases_order j n)

module _ (act : ℕ → Action) (arrived : List ℕ) (line : ℕ) where
  step_small : (t : Bool) (x : ℕ) → x ≤ limit → cond t x 0 ≤ limit
  step_small true x h = h
  step_small false x h = omega arith

  best_small : (k : ℕ) → ((j : ℕ) → j < k → get_or arrived j 0 * total (act j) ≤ limit) → best act arrived line k ≤ limit
  best_small zero f = omega arith
  best_small (suc k) f =
      let p = best_small k (λ j h. f j (omega arith)) in
      let q = step_small (leads (act k) line) (get_or arrived k 0 * total (act k)) (f k (omega arith)) in
      omega (arith, p, q)

  best_over : (k from : ℕ) → from < k → leads (act from) line ≡ true → get_or arrived from 0 * total (act from) ≤ best act arrived line k
  best_over zero from l e = absurd (omega arith)
  best_over (suc k) from l e =
      ⊎_elim
      (λ q. subst (λ j. get_or arrived j 0 * total (act j) ≤ best act arrived line (suc k)) (sym q)
      (let c = cond-true (leads (act k) line) (get_or arrived k 0 * total (act k)) 0 (subst (λ j. leads (act j) line ≡ true) q e) in omega (arith, c)))
      (⊎_elim (λ q. let p = best_over k from q e in omega (arith, p)) (λ q. absurd (omega arith)))
      (cases_order from k)

module _ (sheet : List ℕ) (e : verdict sheet ≡ None) where
  abbrev act : ℕ → Action
  act = action sheet

  none_leads : (l next : ℕ) → none ≡ act l → leads (act l) next ≡ true → ⊥
  none_leads l next q k = false≢true (ap (λ a. leads a next) q ∙ k)

  forward : (l next : ℕ) → leads (act l) next ≡ true → (2 ≤ l) × ((l < next) × (next < line_count sheet))
  forward l next k =
      let c = counted_sheet sheet e in
      let r = frames_read sheet (line_count sheet) (head sheet) e c refl in
      let many = (passed sheet e).many in
      ⊎_elim
      (λ h. absurd (none_leads l next (nothing_early sheet (line_count sheet) c (head sheet) r many l h) k))
      (λ h. ⊎_elim
      (λ i. (h, leads_onward _ (line_count sheet) l (act l) ((lawful_script sheet e).acts l h i) next k))
      (λ i. absurd (none_leads l next (nothing_late sheet (line_count sheet) c (head sheet) r many l i) k))
      (cases_lt l (line_count sheet)))
      (cases_lt l 2)

  no_fault : (line : ℕ) → line < line_count sheet → (shuffles (act line) && ltb limit (greatest act line)) ≡ false
  no_fault line l = given_none _ _ (first_none_each (product_fault sheet) (line_count sheet) (passed sheet e).small line l)

  from_arrival : (line : ℕ) → line < line_count sheet → arrival act line (arrivals act line) ≤ limit → greatest act line ≤ limit
  from_arrival line l a =
      ⊎_elim
      (λ t. ltb-false limit (greatest act line) (subst (λ b. (b && ltb limit (greatest act line)) ≡ false) t (no_fault line l)))
      (λ t. rw (one_draw (act line) t, mul-one) a)
      (cases_Bool (shuffles (act line)))

  arrival_small : (line : ℕ) → ((j : ℕ) → j < line → greatest act j ≤ limit) → arrival act line (arrivals act line) ≤ limit
  arrival_small line f = go (eqb line 2)
    where
      go : (t : Bool) → cond t 1 (best act (arrivals act line) line line) ≤ limit
      go true = omega arith
      go false = best_small act (arrivals act line) line line (λ j h. rw (arrivals_at act line j h) (f j h))

  small_below : (n : ℕ) → n ≤ line_count sheet → (j : ℕ) → j < n → greatest act j ≤ limit
  small_below zero l j h = absurd (omega arith)
  small_below (suc n) l j h =
      ⊎_elim
      (λ q. subst (λ k. greatest act k ≤ limit) (sym q)
      (from_arrival n (omega arith) (arrival_small n (λ i k. small_below n (omega arith) i k))))
      (⊎_elim (λ q. small_below n (omega arith) j q) (λ q. absurd (omega arith)))
      (cases_order j n)

  arrives : {line product : ℕ} → Path act line product → (2 ≤ line) × ((line < line_count sheet) × (product ≤ arrival act line (arrivals act line)))
  arrives start = (omega arith, ((passed sheet e).many, omega arith))
  arrives (onward line before next p k) =
      let r = arrives p in
      let f = forward line next k in
      let later : arrival act next (arrivals act next) ≡ best act (arrivals act next) next next
      = cond-false (eqb next 2) 1 (best act (arrivals act next) next next) (ne_eqb next 2 (λ q. omega (arith, q, f.0, f.1.0))) in
      let b = best_over act (arrivals act next) next next line f.1.0 k in
      let g : greatest act line ≤ best act (arrivals act next) next next
      = subst (λ x. x * total (act line) ≤ best act (arrivals act next) next next) (arrivals_at act next line f.1.0) b in
      let m : before * total (act line) ≤ greatest act line = mul-le-mul_right (total (act line)) r.1.1 in
      (omega (arith, f.0, f.1.0), (f.1.1, rw later (omega (arith, m, g))))

  pub small_products : SmallProducts (script_of sheet)
  small_products line product p =
      let r = arrives p in
      let g = small_below (line_count sheet) (omega arith) line r.1.0 in
      let m : product * total (act line) ≤ greatest act line = mul-le-mul_right (total (act line)) r.1.1 in
      omega (arith, m, g)

pub check_law : CheckLaw
check_law = record { lawful = lawful_script; small = small_products }
