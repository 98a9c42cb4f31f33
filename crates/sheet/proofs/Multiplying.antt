-- The greatest products of paths, line by line.
use Rattle.std.proofs.Common.{◌≡◌, ℕ, zero, suc, ◌+◌, ◌*◌, ◌<◌, ◌≤◌, max, Bool, true, false, cond, ◌&&◌, List, [], ◌∷◌, ◌++◌, length, get_or, Some, None, sym, refl, ap, ◌∙◌, subst, ⊎_elim, add-one, arith}
use Rattle.std.proofs.lemmas.List.{length_push, get_or_push, get_or_append_left}
use Rattle.std.proofs.lemmas.Bool.{cases_order, lt-ltb, le-ltb}
use Rattle.script.specs.Model.{Action, permute, shuffle, turn, committed, opened, none}
use Rattle.heads.specs.Faults.{sheet_fault}
use Rattle.sheet.specs.First.{first, given}
use Rattle.sheet.specs.Products.{total, shuffles, leads, best, arrival, arrivals, greatest, limit}
use Rattle.sheet.specs.Scripts.{action}
use Rattle.sheet.specs.Verdicts.{product_fault}
use Rattle.sheet.specs.Firsts.{first_zero, first_more, first_some}

pub arrivals_zero : (act : ℕ → Action) → arrivals act 0 ≡ []
unfolding arrivals
arrivals_zero act = refl

pub arrivals_suc : (act : ℕ → Action) (line : ℕ) → arrivals act (suc line) ≡ arrivals act line ++ arrival act line (arrivals act line) ∷ []
unfolding arrivals
arrivals_suc act line = refl

pub length_arrivals : (act : ℕ → Action) (line : ℕ) → length (arrivals act line) ≡ line
length_arrivals act zero = rw (arrivals_zero act)
length_arrivals act (suc line) =
    rw (arrivals_suc act line, length_push (arrivals act line) (arrival act line (arrivals act line)), length_arrivals act line) (add-one line)

pub one_draw : (a : Action) → shuffles a ≡ false → total a ≡ 1
one_draw (permute images next) e = refl
one_draw (shuffle draws next) e = let z : ◌≡◌ {A = ℕ} 0 1 = cc in absurd (omega arith)
one_draw (turn places branches) e = refl
one_draw (committed left right) e = refl
one_draw (opened value) e = refl
one_draw none e = refl

-- one more line from which a path may come
pub best_more : (act : ℕ → Action) (arrived : List ℕ) (line from : ℕ)
    → best act arrived line (from + 1)
    ≡ max (best act arrived line from) (cond (leads (act from) line) (get_or arrived from 0 * total (act from)) 0)
best_more act arrived line from = rw add-one

pub best_leads : (act : ℕ → Action) (arrived : List ℕ) (line from most : ℕ) → most ≡ best act arrived line from → leads (act from) line ≡ true
    → max most (get_or arrived from 0 * total (act from)) ≡ best act arrived line (from + 1)
best_leads act arrived line from most e l = sym (best_more act arrived line from ∙ rw (l, ← e))

module _ (sheet : List ℕ) where
  -- no product exceeds the limit at the first so many lines
  pub record Ahead (line : ℕ) (arrived : List ℕ) : Type 0 where
    pub long : length arrived ≡ line
    pub known : arrived ≡ arrivals (action sheet) line
    pub small : (j : ℕ) → j < line → get_or arrived j 0 * total (action sheet j) ≤ limit
    pub sound : first line (product_fault sheet) ≡ None

  pub ahead_none : (arrived : List ℕ) → arrived ≡ [] → Ahead 0 arrived
  ahead_none arrived e = record { long = ap length e; known = e ∙ sym (arrivals_zero (action sheet)); small = λ j h. absurd (omega arith); sound = first_zero _ }

  greatest_is : (line most : ℕ) (arrived : List ℕ) → Ahead line arrived → most ≡ arrival (action sheet) line arrived
      → greatest (action sheet) line ≡ most * total (action sheet line)
  greatest_is line most arrived a e = let k = a.known in rw (← k, ← e)

  pub ahead_more : (line most : ℕ) (arrived after : List ℕ) → Ahead line arrived
      → most ≡ arrival (action sheet) line arrived → most * total (action sheet line) ≤ limit
      → after ≡ arrived ++ most ∷ [] → Ahead (line + 1) after
  ahead_more line most arrived after a e s w =
      let long = a.long in
      let k = a.known in
      record {
        long = rw (w, length_push arrived most, long);
        known = rw (w, add-one, arrivals_suc (action sheet) line, ← k, ← e);
        small = λ j h. rw w (⊎_elim
            (λ q. subst (λ k. get_or (arrived ++ most ∷ []) k 0 * total (action sheet k) ≤ limit) (sym q)
            (rw (get_or_push arrived most 0 line long) s))
            (⊎_elim
            (λ q. rw (get_or_append_left arrived (most ∷ []) 0 j (rw long q)) (a.small j q))
            (λ q. absurd (omega arith)))
            (cases_order j line));
        sound = first_more (product_fault sheet) line a.sound
            (rw (greatest_is line most arrived a e, le-ltb limit (most * total (action sheet line)) s) (none_given (shuffles (action sheet line))));
      }
    where
      none_given : (t : Bool) → given (t && false) (sheet_fault 19 line 0) ≡ None
      none_given true = refl
      none_given false = refl

  pub ahead_fault : (line lines most : ℕ) (arrived : List ℕ) → line < lines → Ahead line arrived
      → most ≡ arrival (action sheet) line arrived → shuffles (action sheet line) ≡ true → limit < most * total (action sheet line)
      → first lines (product_fault sheet) ≡ Some (sheet_fault 19 line 0)
  ahead_fault line lines most arrived l a e t s =
      first_some (product_fault sheet) line lines _ l a.sound
      (rw (greatest_is line most arrived a e, t, lt-ltb limit (most * total (action sheet line)) s))
