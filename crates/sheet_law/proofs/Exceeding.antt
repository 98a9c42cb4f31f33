-- Refusal 19 names the lowest shuffle line to which a path leads whose product, with the line's total, is above the limit.
use Rattle.std.proofs.Common.{◌≡◌, ◌≢◌, ◌⊎◌, ℕ, zero, suc, ◌-◌, ◌*◌, ◌<◌, ◌≤◌, Bool, true, false, ◌&&◌, not, eqb, ltb, List, [], ◌∷◌, length, get_or, drop, Some, None, Option, inl, inr, sym, refl, ap, ◌∙◌, subst, ⊎_elim, mul-le-mul_right, arith}
use Rattle.std.proofs.lemmas.Bool.{cases_lt, cases_order, eqb-true, ne_eqb, ltb-true, ltb-false, lt-ltb, and_parts, and_from, or_cases, not-false, false≢true, true≢false, cond-true, cond-false}
use Rattle.std.specs.List.{AllByRecursion}
use Rattle.script.specs.Faults.{Fault}
use Rattle.script.specs.Model.{Action, Branch, permute, shuffle, turn, committed, opened, none, LawfulAction, LawfulBranch}
use Rattle.heads.specs.Faults.{sheet_fault}
use Rattle.heads.specs.declared.head.Head.{Head}
use Rattle.format.specs.Form.{wrong}
use Rattle.format.specs.Kinds.{head_form, layout_form, form_at}
use Rattle.format.specs.Parts.{parts}
use Rattle.writing.specs.Writing.{line_bytes}
use Rattle.writing.proofs.Frames.{line_reads}
use Rattle.sheet.specs.First.{or_else, first, given, mapped, value_or}
use Rattle.sheet.specs.Lines.{left, frame, no_more, bad_length, line_count}
use Rattle.sheet.specs.Products.{Path, start, onward, total, shuffles, leads, targets, best, arrival, arrivals, greatest, limit}
use Rattle.sheet.specs.Scripts.{head, action, action_of}
use Rattle.sheet.specs.Verdicts.{verdict, length_fault, few_fault, byte_fault, code_fault, missing_code, frame_fault, line_fault, result_fault, last_fault, product_fault, differs, is_result, kind_at}
use Rattle.sheet.specs.Counting.{Counted, FramesRead}
use Rattle.sheet.specs.Firsts.{some_none, or_else_none, given_none, first_zero, first_suc, first_none_each}
use Rattle.sheet.specs.Passing.{sound_line, sound_length}
use Rattle.sheet.specs.Lawful.{lawful_line}
use Rattle.sheet.specs.Acting.{line_fits, nothing_late}
use Rattle.sheet_law.specs.Exceeding.{Exceeds, Lowest, before_products, ExceedingLaw}
use Rattle.sheet_law.proofs.Attaining.{arrivals_at, positive, attained}

-- the first of several answers
cases_option : {X : Type 0} (o : Option X) → (o ≡ None) ⊎ ((x : X) × (o ≡ Some x))
cases_option None = inl refl
cases_option (Some x) = inr (x, refl)

or_next : {X : Type 0} (o y : Option X) → o ≡ None → or_else o y ≡ y
or_next o y e = ap (λ p. or_else p y) e

or_nothing : {X : Type 0} (o : Option X) → o ≡ or_else o None
or_nothing None = refl
or_nothing (Some x) = refl

given_yes : {X : Type 0} (t : Bool) (a b : X) → given t a ≡ Some b → (t ≡ true) × (a ≡ b)
given_yes true a b e = (refl, ap (value_or a) e)
given_yes false a b e = absurd (some_none b None e refl)

module _ {X : Type 0} (f : ℕ → Option X) where
  record Found (n : ℕ) (x : X) : Type 0 where
    pub at : ℕ
    pub below : at < n
    pub before : first at f ≡ None
    pub is : f at ≡ Some x

  first_found : (n : ℕ) (x : X) → first n f ≡ Some x → Found n x
  first_found zero x e = absurd (some_none x _ e (first_zero f))
  first_found (suc n) x e =
      let s : or_else (first n f) (f n) ≡ Some x = sym (first_suc f n) ∙ e in
      ⊎_elim
      (λ q. record { at = n; below = omega arith; before = q; is = sym (or_next (first n f) (f n) q) ∙ s })
      (λ y.
      let r = first_found n x (y.1 ∙ (sym (ap (λ o. or_else o (f n)) y.1) ∙ s)) in
      record { at = r.at; below = omega (arith, r.below); before = r.before; is = r.is })
      (cases_option (first n f))

-- answers that are no refusal 19
abbrev Other : Option Fault → Type 0
Other o = (f : Fault) → o ≡ Some f → f.number ≡ 19 → ⊥

other_given : (t : Bool) (number line place : ℕ) → (number ≡ 19 → ⊥) → Other (given t (sheet_fault number line place))
other_given t number line place d f e n =
    let p = given_yes t (sheet_fault number line place) f e in d (ap (λ x. x.number) p.1 ∙ n)

other_mapped : (o : Option ℕ) (number line : ℕ) → (number ≡ 19 → ⊥) → Other (mapped (λ place. sheet_fault number line place) o)
other_mapped None number line d f e n = absurd (some_none f None e refl)
other_mapped (Some place) number line d f e n =
    d (ap (λ x. x.number) (ap (value_or (sheet_fault number line place)) e) ∙ n)

other_or : (o y : Option Fault) → Other o → Other y → Other (or_else o y)
other_or None y p q = q
other_or (Some x) y p q = p

other_first : (g : ℕ → Option Fault) → ((l : ℕ) → Other (g l)) → (n : ℕ) → Other (first n g)
other_first g p n f e k = let r = first_found g n f e in p r.at f r.is k

other_frame : (h : Head) (lines line : ℕ) (bytes : List ℕ) → Other (frame_fault h lines line bytes)
other_frame h lines zero bytes = other_mapped (wrong 0 head_form bytes) 10 0 (λ q. omega (arith, q))
other_frame h lines (suc zero) bytes =
    other_or (byte_fault 1 (layout_form h) bytes) (code_fault h.players (drop 1 bytes))
    (other_mapped (wrong 0 (layout_form h) bytes) 10 1 (λ q. omega (arith, q)))
    (other_mapped (missing_code h.players (drop 1 bytes)) 14 1 (λ q. omega (arith, q)))
other_frame h lines (suc (suc line)) bytes =
    other_mapped (wrong 0 (form_at h lines (suc (suc line))) bytes) 10 (suc (suc line)) (λ q. omega (arith, q))

-- a refusal 19 is none of these
past : (o y : Option Fault) (f : Fault) → Other o → or_else o y ≡ Some f → f.number ≡ 19 → (o ≡ None) × (y ≡ Some f)
past None y f p e n = (refl, e)
past (Some x) y f p e n = absurd (p f e n)

target_onward : (lines l t next : ℕ) (bs : List Branch) → AllByRecursion (LawfulBranch lines l t) bs → targets bs next ≡ true → (l < next) × (next < lines)
target_onward lines l t next [] k e = absurd (false≢true e)
target_onward lines l t next (b ∷ bs) k e =
    ⊎_elim
    (λ p. let q = eqb-true b.target next p in (subst (λ x. l < x) q k.0.onward.later, subst (λ x. x < lines) q k.0.onward.there))
    (λ p. target_onward lines l t next bs k.1 p)
    (or_cases (eqb b.target next) (targets bs next) e)

leads_onward : (n lines l : ℕ) (a : Action) → LawfulAction n lines l a → (next : ℕ) → leads a next ≡ true → (l < next) × (next < lines)
leads_onward n lines l (permute images x) k next e =
    let q = eqb-true x next e in (subst (λ y. l < y) q k.1.later, subst (λ y. y < lines) q k.1.there)
leads_onward n lines l (shuffle draws x) k next e =
    let q = eqb-true x next e in (subst (λ y. l < y) q k.1.1.later, subst (λ y. y < lines) q k.1.1.there)
leads_onward n lines l (turn places branches) k next e = target_onward lines l (length places) next branches k.1.1 e
leads_onward n lines l (committed a b) k next e = absurd (false≢true e)
leads_onward n lines l (opened v) k next e = absurd (false≢true e)
leads_onward n lines l none k next e = absurd (false≢true e)

-- the greatest product is at least each that it is taken of
best_over : (act : ℕ → Action) (arrived : List ℕ) (line k from : ℕ) → from < k → leads (act from) line ≡ true
    → get_or arrived from 0 * total (act from) ≤ best act arrived line k
best_over act arrived line zero from l e = absurd (omega arith)
best_over act arrived line (suc k) from l e =
    ⊎_elim
    (λ q. subst (λ j. get_or arrived j 0 * total (act j) ≤ best act arrived line (suc k)) (sym q)
    (let c = cond-true (leads (act k) line) (get_or arrived k 0 * total (act k)) 0 (subst (λ j. leads (act j) line ≡ true) q e) in omega (arith, c)))
    (⊎_elim (λ q. let p = best_over act arrived line k from q e in omega (arith, p)) (λ q. absurd (omega arith)))
    (cases_order from k)

nothing_more : (xs : List ℕ) → no_more xs ≡ true → xs ≡ []
nothing_more [] e = refl
nothing_more (x ∷ xs) e = absurd (false≢true e)

some_more : (xs : List ℕ) → no_more xs ≡ false → bad_length 64 xs ≢ false
some_more [] e f = true≢false e
some_more (n ∷ xs) e f = let s = sound_length n xs 64 f in omega (arith, s.early)

-- a sheet of which nothing is refused before the products
module _ (sheet : List ℕ) where
  record Before : Type 0 where
    pub sound : first 65 (length_fault sheet) ≡ None
    pub three : few_fault sheet ≡ None
    pub framed : first (line_count sheet) (line_fault sheet) ≡ None
    pub agree : first (line_count sheet) (result_fault sheet) ≡ None
    pub ended : last_fault sheet ≡ None

  before : before_products sheet ≡ None → Before
  before e =
      let a = or_else_none _ _ e in
      let b = or_else_none _ _ a.1 in
      let c = or_else_none _ _ b.1 in
      let d = or_else_none _ _ c.1 in
      let f = or_else_none _ _ d.1 in
      record { sound = a.0; three = b.0; framed = c.0; agree = d.0; ended = f.0 }

  -- what comes after them, where they are nothing
  after : Before → (o : Option Fault)
      → or_else (first 65 (length_fault sheet)) (or_else (few_fault sheet) (or_else (first (line_count sheet) (line_fault sheet))
      (or_else (first (line_count sheet) (result_fault sheet)) (or_else (last_fault sheet) o)))) ≡ o
  after b o =
      or_next (first 65 (length_fault sheet)) _ b.sound
      ∙ (or_next (few_fault sheet) _ b.three
      ∙ (or_next (first (line_count sheet) (line_fault sheet)) _ b.framed
      ∙ (or_next (first (line_count sheet) (result_fault sheet)) _ b.agree ∙ or_next (last_fault sheet) o b.ended)))

  abbrev ending : ℕ → Option ℕ
  ending line = given (no_more (left sheet line)) line

  counted_to : first 65 (length_fault sheet) ≡ None → (o : Option ℕ) → first 65 ending ≡ o → (value_or 0 o ≤ 64) × (left sheet (value_or 0 o) ≡ [])
  counted_to s None q =
      absurd (some_more (left sheet 64) (given_none _ _ (first_none_each ending 65 q 64 (omega arith))) (sound_line sheet s 64 (omega arith)))
  counted_to s (Some x) q =
      let r = first_found ending 65 x q in
      let g = given_yes (no_more (left sheet r.at)) r.at x r.is in
      (omega (arith, r.below, g.1), nothing_more (left sheet x) (subst (λ l. no_more (left sheet l) ≡ true) g.1 g.0))

  abbrev act : ℕ → Action
  act = action sheet

  module _ (b : Before) where
    many : 3 ≤ line_count sheet
    many = ltb-false (line_count sheet) 3 (given_none _ _ b.three)

    counted : Counted sheet (line_count sheet)
    counted =
        let c = counted_to b.sound (first 65 ending) refl in
        record { sound = b.sound; count = refl; few = c.0; over = c.1 }

    read : FramesRead sheet (line_count sheet) (head sheet)
    read = record { sound = b.framed; heads = refl }

    last_result : (line : ℕ) → line < line_count sheet → (is_result (kind_at sheet line) ≡ true) ⊎ (suc line < line_count sheet)
    last_result line l =
        let r : is_result (kind_at sheet (line_count sheet - 1)) ≡ true = not-false _ (given_none _ _ b.ended) in
        ⊎_elim
        (λ q. inl (subst (λ k. is_result (kind_at sheet k) ≡ true) (let z : line_count sheet - 1 ≡ line = omega arith in z) r))
        (⊎_elim (λ q. inr q) (λ q. absurd (omega arith)))
        (cases_order (suc line) (line_count sheet))

    lawful : (line : ℕ) → 2 ≤ line → line < line_count sheet → LawfulAction (head sheet).cards (line_count sheet) line (act line)
    lawful line l k =
        let f = line_fits sheet (line_count sheet) counted (head sheet) read many line l k in
        let r = line_reads (head sheet) (line_count sheet) line l (omega arith) (frame sheet line) f in
        let c : (is_result (get_or (line_bytes r.0) 0 0) ≡ true) ⊎ (suc line < line_count sheet)
        = subst (λ x. (is_result (get_or x 0 0) ≡ true) ⊎ (suc line < line_count sheet)) (sym r.1.0) (last_result line k) in
        subst (λ x. LawfulAction (head sheet).cards (line_count sheet) line (action_of line (parts x))) r.1.0
        (lawful_line (head sheet) (line_count sheet) line r.0 r.1.1 c)

    late : (line : ℕ) → line_count sheet ≤ line → none ≡ act line
    late line l = nothing_late sheet (line_count sheet) counted (head sheet) read many line l

    forward : (l next : ℕ) → 2 ≤ l → leads (act l) next ≡ true → (l < next) × (next < line_count sheet)
    forward l next h k =
        ⊎_elim
        (λ i. leads_onward _ (line_count sheet) l (act l) (lawful l h i) next k)
        (λ i. absurd (false≢true (ap (λ a. leads a next) (late l i) ∙ k)))
        (cases_lt l (line_count sheet))

    arrives : {line product : ℕ} → Path act line product → (2 ≤ line) × ((line < line_count sheet) × (product ≤ arrival act line (arrivals act line)))
    arrives start = (omega arith, (many, omega arith))
    arrives (onward line earlier next p k) =
        let r = arrives p in
        let f = forward line next r.0 k in
        let later : arrival act next (arrivals act next) ≡ best act (arrivals act next) next next
        = cond-false (eqb next 2) 1 (best act (arrivals act next) next next) (ne_eqb next 2 (λ q. omega (arith, q, r.0, f.0))) in
        let o = best_over act (arrivals act next) next next line f.0 k in
        let g : greatest act line ≤ best act (arrivals act next) next next
        = subst (λ x. x * total (act line) ≤ best act (arrivals act next) next next) (arrivals_at act next line f.0) o in
        let m : earlier * total (act line) ≤ greatest act line = mul-le-mul_right (total (act line)) r.1.1 in
        (omega (arith, f.0, r.0), (f.1, rw later (omega (arith, m, g))))

    exceeding : (line : ℕ) → Exceeds sheet line → (line < line_count sheet) × ((shuffles (act line) && ltb limit (greatest act line)) ≡ true)
    exceeding line x =
        let r = arrives x.path in
        let m : x.product * total (act line) ≤ greatest act line = mul-le-mul_right (total (act line)) r.1.1 in
        (r.1.0, and_from _ _ x.shuffle (lt-ltb limit (greatest act line) (omega (arith, m, x.above))))

    lowest_at : (n : ℕ) (fault : Fault) → first n (product_fault sheet) ≡ Some fault
        → (Lowest sheet fault.line) × (fault ≡ sheet_fault 19 fault.line 0)
    lowest_at n fault e =
        let r = first_found (product_fault sheet) n fault e in
        let g = given_yes (shuffles (act r.at) && ltb limit (greatest act r.at)) (sheet_fault 19 r.at 0) fault r.is in
        let at : r.at ≡ fault.line = ap (λ f. f.line) g.1 in
        let p = and_parts _ _ g.0 in
        let h = ltb-true limit (greatest act r.at) p.1 in
        let lowest : Lowest sheet r.at = record {
          exceeds = record {
            shuffle = p.0;
            product = arrival act r.at (arrivals act r.at);
            path = attained act (suc r.at) r.at (omega arith) (positive act (arrival act r.at (arrivals act r.at)) (total (act r.at)) (omega (arith, h)));
            above = h;
          };
          lowest = λ l k x.
              false≢true (sym (given_none _ _ (first_none_each (product_fault sheet) r.at r.before l k)) ∙ (exceeding l x).1);
        } in
        (subst (Lowest sheet) at lowest, sym g.1 ∙ ap (λ l. sheet_fault 19 l 0) at)

  nineteen : (fault : Fault) → verdict sheet ≡ Some fault → fault.number ≡ 19 → Before × (first (line_count sheet) (product_fault sheet) ≡ Some fault)
  nineteen fault e n =
      let eight : (l : ℕ) → Other (length_fault sheet l) = λ l. other_given (bad_length l (left sheet l)) 8 l 0 (λ q. omega (arith, q)) in
      let nine : Other (few_fault sheet) = other_given (ltb (line_count sheet) 3) 9 (line_count sheet) 0 (λ q. omega (arith, q)) in
      let seventeen : (l : ℕ) → Other (result_fault sheet l) = λ l. other_given (differs sheet l) 17 l 0 (λ q. omega (arith, q)) in
      let eighteen : Other (last_fault sheet)
      = other_given (not (is_result (kind_at sheet (line_count sheet - 1)))) 18 (line_count sheet - 1) 0 (λ q. omega (arith, q)) in
      let a = past (first 65 (length_fault sheet)) _ fault (other_first (length_fault sheet) eight 65) e n in
      let b = past (few_fault sheet) _ fault nine a.1 n in
      let c = past (first (line_count sheet) (line_fault sheet)) _ fault
      (other_first (line_fault sheet) (λ l. other_frame (head sheet) (line_count sheet) l (frame sheet l)) (line_count sheet)) b.1 n in
      let d = past (first (line_count sheet) (result_fault sheet)) _ fault (other_first (result_fault sheet) seventeen (line_count sheet)) c.1 n in
      let f = past (last_fault sheet) _ fault eighteen d.1 n in (
        record { sound = a.0; three = b.0; framed = c.0; agree = d.0; ended = f.0 },
        or_nothing (first (line_count sheet) (product_fault sheet)) ∙ f.1,
      )

  refused : (fault : Fault) → verdict sheet ≡ Some fault → fault.number ≡ 19 → (before_products sheet ≡ None) × Lowest sheet fault.line
  refused fault e n =
      let p = nineteen fault e n in
      (after p.0 None, (lowest_at p.0 (line_count sheet) fault p.1).0)

  found : (line : ℕ) → before_products sheet ≡ None → Exceeds sheet line
      → (lowest : ℕ) × (Lowest sheet lowest × (verdict sheet ≡ Some (sheet_fault 19 lowest 0)))
  found line e x =
      let b = before e in
      let h = exceeding b line x in
      ⊎_elim
      (λ q. absurd (false≢true (sym (given_none _ _ (first_none_each (product_fault sheet) (line_count sheet) q line h.0)) ∙ h.1)))
      (λ y.
      let l = lowest_at b (line_count sheet) y.0 y.1 in (
        y.0.line,
        (
          l.0,
          after b (or_else (first (line_count sheet) (product_fault sheet)) None)
              ∙ (sym (or_nothing (first (line_count sheet) (product_fault sheet))) ∙ (y.1 ∙ ap Some l.1)),
        ),
      ))
      (cases_option (first (line_count sheet) (product_fault sheet)))

pub exceeding_law : ExceedingLaw
exceeding_law = record { refused = refused; found = found }
