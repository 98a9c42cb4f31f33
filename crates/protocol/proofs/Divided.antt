-- The classes of a certificate: two inputs have one class exactly when they have one total at each result node.
use Rattle.std.proofs.Common.{◌≡◌, ℕ, zero, suc, ◌+◌, ◌<◌, ◌≤◌, Bool, true, false, cond, ◌&&◌, eqb, List, [], ◌∷◌, get_or, sym, refl, ap, ◌∙◌, subst, inl, inr, arith, eq-eqb, eqb-true}
use lib.ListN.{get_or-replicate}
use Rattle.std.specs.List.{AllByRecursion}
use Rattle.std.proofs.lemmas.Bool.{false≢true, and_parts, and_from, cases_order}
use Rattle.protocol.specs.Machine.{Protocol, inputs, action_at, is_result}
use Rattle.protocol.specs.States.{Row, total_of}
use Rattle.protocol.specs.Tree.{Node, Certificate, class, first_from, divided, noted, blank}
use Rattle.protocol.proofs.Dealt.{table_at}
use Rattle.protocol.proofs.Scan.{noted_all}

-- the first of k numbers from x on that passes, where the one after them does
pub record First (k x : ℕ) (test : ℕ → Bool) (r : ℕ) : Type 0 where
  pub from : x ≤ r
  pub upto : r ≤ x + k
  pub passed : test r ≡ true
  pub least : (y : ℕ) → x ≤ y → y < r → test y ≡ false

first_found : (k x : ℕ) (test : ℕ → Bool) → test (x + k) ≡ true → First k x test (first_from k x test)
first_found zero x test h =
    record {
      from = omega arith;
      upto = omega arith;
      passed = (let e : x + 0 ≡ x = omega arith in ap test (sym e) ∙ h);
      least = λ y a b. absurd (omega arith);
    }
first_found (suc k) x test h = go (test x) refl (first_found k (suc x) test (let e : suc x + k ≡ x + suc k = omega arith in ap test e ∙ h))
  where
    go : (t : Bool) → test x ≡ t → First k (suc x) test (first_from k (suc x) test) → First (suc k) x test (cond t x (first_from k (suc x) test))
    go true e ih = record { from = omega arith; upto = omega arith; passed = e; least = λ y a b. absurd (omega arith) }
    go false e ih =
        record {
          from = (let a = ih.from in omega arith);
          upto = (let a = ih.upto in omega arith);
          passed = ih.passed;
          least = λ y a b. elim (cases_order x y) [
            | inl q ↦ ap test (sym q) ∙ e
            | inr o ↦ elim o [ inl l ↦ ih.least y l b | inr l ↦ absurd (omega arith) ]
          ];
        }

-- numbers given to inputs: each input's is the least of those that have it
pub record Naming (n : ℕ) (classes : List ℕ) : Type 0 where
  pub below : (b : ℕ) → b < n → get_or classes b 0 ≤ b
  pub named : (b : ℕ) → b < n → get_or classes (get_or classes b 0) 0 ≡ get_or classes b 0

module _ (p : Protocol) (rows : List Row) (classes : List ℕ) where
  -- two inputs of one class and one total
  test : ℕ → ℕ → Bool
  test b c = eqb (get_or classes c 0) (get_or classes b 0) && eqb (total_of c rows) (total_of b rows)

  abbrev new : ℕ → ℕ
  new b = get_or (divided p rows classes) b 0

  test_both : (b c : ℕ) → test b c ≡ true → (get_or classes c 0 ≡ get_or classes b 0) × (total_of c rows ≡ total_of b rows)
  unfolding test
  test_both b c e =
      let h = and_parts (eqb (get_or classes c 0) (get_or classes b 0)) (eqb (total_of c rows) (total_of b rows)) e in
      (eqb-true (get_or classes c 0) (get_or classes b 0) h.0, eqb-true (total_of c rows) (total_of b rows) h.1)

  test_from : (b c : ℕ) → get_or classes c 0 ≡ get_or classes b 0 → total_of c rows ≡ total_of b rows → test b c ≡ true
  unfolding test
  test_from b c e f =
      and_from (eqb (get_or classes c 0) (get_or classes b 0)) (eqb (total_of c rows) (total_of b rows))
      (eq-eqb (get_or classes c 0) (get_or classes b 0) e) (eq-eqb (total_of c rows) (total_of b rows) f)

  new_first : (b : ℕ) → b < inputs p → First b 0 (test b) (new b)
  unfolding test
  new_first b h =
      subst (First b 0 (test b)) (sym (table_at (λ b. first_from b 0 (test b)) (inputs p) b h))
      (first_found b 0 (test b) (let e : 0 + b ≡ b = omega arith in ap (test b) e ∙ test_from b b refl refl))

  new_same : (b d : ℕ) → b < inputs p → d < inputs p → new b ≡ new d → (get_or classes b 0 ≡ get_or classes d 0) × (total_of b rows ≡ total_of d rows)
  new_same b d h k e =
      let x = test_both b (new b) (new_first b h).passed in
      let y = test_both d (new b) (ap (test d) e ∙ (new_first d k).passed) in
      (sym x.0 ∙ y.0, sym x.1 ∙ y.1)

  not_below : (b d : ℕ) → b < inputs p → d < inputs p → get_or classes b 0 ≡ get_or classes d 0 → total_of b rows ≡ total_of d rows → new d < new b → ⊥
  not_below b d h k e f l =
      let y = test_both d (new d) (new_first d k).passed in
      false≢true
      (sym ((new_first b h).least (new d) (omega arith) l) ∙ test_from b (new d) (y.0 ∙ sym e) (y.1 ∙ sym f))

  same_new : (b d : ℕ) → b < inputs p → d < inputs p → get_or classes b 0 ≡ get_or classes d 0 → total_of b rows ≡ total_of d rows → new b ≡ new d
  same_new b d h k e f =
      elim (cases_order (new b) (new d)) [
        | inl q ↦ q
        | inr o ↦
            elim o [
              | inl l ↦ absurd (not_below d b k h (sym e) (sym f) l)
              | inr l ↦ absurd (not_below b d h k e f l)
            ]
      ]

  new_naming : Naming (inputs p) (divided p rows classes)
  new_naming =
      record {
        below = λ b h. (let u = (new_first b h).upto in omega arith);
        named = λ b h.
            let u = (new_first b h).upto in
            let y = test_both b (new b) (new_first b h).passed in
            same_new (new b) b (omega arith) h y.0 y.1;
      }

-- one total at a result node
abbrev pub OneTotal : Protocol → ℕ → ℕ → Node → Type 0
OneTotal p b d u = is_result (action_at p u.line) ≡ true → total_of b u.rows ≡ total_of d u.rows

module _ (p : Protocol) where
  one_node : (u : Node) (c : Certificate) → Naming (inputs p) c.classes → Naming (inputs p) (noted p u c).classes
  one_node u c h =
      elim (is_result (action_at p u.line))
      as (λ t. Naming (inputs p) (cond t (divided p u.rows c.classes) c.classes)) [
        | true ↦ new_naming p u.rows c.classes
        | false ↦ h
      ]

  one_same : (u : Node) (c : Certificate) (b d : ℕ) → b < inputs p → d < inputs p → class (noted p u c) b ≡ class (noted p u c) d → (class c b ≡ class c d) × OneTotal p b d u
  one_same u c b d h k = go (is_result (action_at p u.line))
    where
      go : (t : Bool) → get_or (cond t (divided p u.rows c.classes) c.classes) b 0 ≡ get_or (cond t (divided p u.rows c.classes) c.classes) d 0 → (class c b ≡ class c d) × (t ≡ true → total_of b u.rows ≡ total_of d u.rows)
      go true e = let x = new_same p u.rows c.classes b d h k e in (x.0, λ f. x.1)
      go false e = (e, λ f. absurd (false≢true f))

  same_one : (u : Node) (c : Certificate) (b d : ℕ) → b < inputs p → d < inputs p → class c b ≡ class c d → OneTotal p b d u → class (noted p u c) b ≡ class (noted p u c) d
  same_one u c b d h k e = go (is_result (action_at p u.line))
    where
      go : (t : Bool) → (t ≡ true → total_of b u.rows ≡ total_of d u.rows) → get_or (cond t (divided p u.rows c.classes) c.classes) b 0 ≡ get_or (cond t (divided p u.rows c.classes) c.classes) d 0
      go true f = same_new p u.rows c.classes b d h k e (f refl)
      go false f = e

  pub naming_all : (us : List Node) (c : Certificate) → Naming (inputs p) c.classes → Naming (inputs p) (noted_all p us c).classes
  naming_all [] c h = h
  naming_all (u ∷ us) c h = naming_all us (noted p u c) (one_node u c h)

  pub class_totals : (us : List Node) (c : Certificate) (b d : ℕ) → b < inputs p → d < inputs p → class (noted_all p us c) b ≡ class (noted_all p us c) d → (class c b ≡ class c d) × AllByRecursion (OneTotal p b d) us
  class_totals [] c b d h k e = (e, tt)
  class_totals (u ∷ us) c b d h k e =
      let ih = class_totals us (noted p u c) b d h k e in
      let x = one_same u c b d h k ih.0 in
      (x.0, (x.1, ih.1))

  pub totals_class : (us : List Node) (c : Certificate) (b d : ℕ) → b < inputs p → d < inputs p → class c b ≡ class c d → AllByRecursion (OneTotal p b d) us → class (noted_all p us c) b ≡ class (noted_all p us c) d
  totals_class [] c b d h k e all = e
  totals_class (u ∷ us) c b d h k e all =
      totals_class us (noted p u c) b d h k (same_one u c b d h k e all.0) all.1

  pub blank_class : (b : ℕ) → b < inputs p → class (blank p) b ≡ 0
  blank_class b h = get_or-replicate (inputs p) b 0 0 h

  pub blank_naming : Naming (inputs p) (blank p).classes
  blank_naming =
      record {
        below = λ b h. (let e = blank_class b h in omega arith);
        named = λ b h.
            let e = blank_class b h in
            ap (λ x. class (blank p) x) e ∙ blank_class 0 (omega arith) ∙ sym e;
      }
