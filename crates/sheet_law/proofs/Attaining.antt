-- The greatest product of the paths to a line is that of a path.
use Rattle.std.proofs.Common.{◌≡◌, ℕ, zero, suc, ◌*◌, ◌<◌, ◌≤◌, true, eqb, List, [], ◌∷◌, get_or, sym, ap, ◌∙◌, subst, ⊎_elim, zero-mul, arith}
use Rattle.std.proofs.lemmas.List.{get_or_push, get_or_append_left}
use Rattle.std.proofs.lemmas.Bool.{cases_Bool, cases_lt, cases_order, cases_eq, ne_eqb, cond-true, cond-false}
use Rattle.script.specs.Model.{Action}
use Rattle.sheet.specs.Products.{Path, start, onward, total, leads, best, arrival, arrivals, greatest, limit}
use Rattle.sheet.proofs.Multiplying.{arrivals_suc, length_arrivals}

pub arrivals_at : (act : ℕ → Action) (n j : ℕ) → j < n → get_or (arrivals act n) j 0 ≡ arrival act j (arrivals act j)
arrivals_at act zero j l = absurd (omega arith)
arrivals_at act (suc n) j l =
    ⊎_elim
    (λ q. subst (λ k. get_or (arrivals act (suc n)) k 0 ≡ arrival act k (arrivals act k)) (sym q)
    (rw (arrivals_suc act n, get_or_push (arrivals act n) (arrival act n (arrivals act n)) 0 n (length_arrivals act n))))
    (⊎_elim
    (λ q. rw (arrivals_suc act n, get_or_append_left (arrivals act n) (arrival act n (arrivals act n) ∷ []) 0 j (rw (length_arrivals act n) q)) (arrivals_at act n j q))
    (λ q. absurd (omega arith)))
    (cases_order j n)

module _ (act : ℕ → Action) (arrived : List ℕ) (line : ℕ) where
  -- a line from which the best product comes
  record From (k : ℕ) : Type 0 where
    pub from : ℕ
    pub before : from < k
    pub leading : leads (act from) line ≡ true
    pub product : get_or arrived from 0 * total (act from) ≡ best act arrived line k

  later : (k : ℕ) → From k → best act arrived line k ≡ best act arrived line (suc k) → From (suc k)
  later k f e = record { from = f.from; before = omega (arith, f.before); leading = f.leading; product = f.product ∙ e }

  best_from : (k : ℕ) → 0 < best act arrived line k → From k
  best_from zero h = absurd (omega arith)
  best_from (suc k) h =
      ⊎_elim
      (λ t. let c = cond-true (leads (act k) line) (get_or arrived k 0 * total (act k)) 0 t in
      ⊎_elim
      (λ l. record { from = k; before = omega arith; leading = t; product = omega (arith, c, l) })
      (λ l. later k (best_from k (omega (arith, h, c, l))) (omega (arith, c, l)))
      (cases_lt (best act arrived line k) (get_or arrived k 0 * total (act k))))
      (λ t. let c = cond-false (leads (act k) line) (get_or arrived k 0 * total (act k)) 0 t in
      later k (best_from k (omega (arith, h, c))) (omega (arith, c)))
      (cases_Bool (leads (act k) line))

module _ (act : ℕ → Action) where
  pub positive : (x t : ℕ) → 0 < x * t → 0 < x
  positive zero t h = absurd (omega (arith, zero-mul t))
  positive (suc x) t h = omega arith

  pub attained : (n line : ℕ) → line < n → 0 < arrival act line (arrivals act line) → Path act line (arrival act line (arrivals act line))
  attained zero line l h = absurd (omega arith)
  attained (suc n) line l h =
      ⊎_elim
      (λ e. subst (λ k. Path act k (arrival act k (arrivals act k))) (sym e) start)
      (λ e.
      let a : arrival act line (arrivals act line) ≡ best act (arrivals act line) line line
      = cond-false (eqb line 2) 1 (best act (arrivals act line) line line) (ne_eqb line 2 e) in
      let f = best_from act (arrivals act line) line line (subst (λ x. 0 < x) a h) in
      let g = arrivals_at act line f.from f.before in
      let p : arrival act f.from (arrivals act f.from) * total (act f.from) ≡ arrival act line (arrivals act line)
      = ap (λ x. x * total (act f.from)) (sym g) ∙ (f.product ∙ sym a) in
      let s = positive (arrival act f.from (arrivals act f.from)) (total (act f.from)) (subst (λ x. 0 < x) (sym p) h) in
      let q = attained n f.from (omega (arith, f.before)) s in
      subst (Path act line) p (onward f.from (arrival act f.from (arrivals act f.from)) line q f.leading))
      (cases_eq line 2)

  pub greatest_small : ((line product : ℕ) → Path act line product → product * total (act line) ≤ limit) → (line : ℕ) → greatest act line ≤ limit
  greatest_small f line =
      ⊎_elim
      (λ h. f line (arrival act line (arrivals act line)) (attained (suc line) line (omega arith) h))
      (λ h. let z : arrival act line (arrivals act line) ≡ 0 = omega arith in rw (z, zero-mul) (omega arith))
      (cases_lt 0 (arrival act line (arrivals act line)))
