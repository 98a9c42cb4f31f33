-- The first number that passes a test, and the classes that are divided by it.
use Rattle.std.proofs.Common.{◌≡◌, ℕ, zero, suc, ◌+◌, ◌^◌, ◌≤◌, Bool, true, false, cond, ◌&&◌, eqb, List, get_or, take, Some, None, Option, find, refl, ap, ◌∙◌, add-one, arith}
use Rattle.std.specs.Option.{unwrap_or, option_map}
use Rattle.std.specs.List.{range_with_len}
use Rattle.cards.specs.Lists.{table}
use Rattle.protocol.specs.Machine.{Protocol, inputs}
use Rattle.protocol.specs.States.{Row, total_of, totals}
use Rattle.protocol.specs.Tree.{first_from, divided}
use Rattle.tree.specs.declared.certificate.Classes.{Classes}
use Rattle.tree.specs.Certificates.{class_list}
use Rattle.tree.specs.Walks.{together}

-- what is found among the numbers from one on, or else the one after them
pub first_of : (n c d : ℕ) (test : ℕ → Bool) → d ≡ c + n → unwrap_or (find test (range_with_len c n)) d ≡ first_from n c test
first_of zero c d test e = omega arith
first_of (suc n) c d test e = go (test c) (first_of n (c + 1) d test (omega arith))
  where
    go : (t : Bool) → unwrap_or (find test (range_with_len (c + 1) n)) d ≡ first_from n (c + 1) test
        → unwrap_or (cond t (Some c) (find test (range_with_len (c + 1) n))) d ≡ cond t c (first_from n (suc c) test)
    go true h = refl
    go false h = h ∙ ap (λ (k : ℕ). first_from n k test) (add-one c)

pub first_found : (r : Option ℕ) (b : ℕ) (test : ℕ → Bool) → option_map (λ x. x) r ≡ find test (range_with_len 0 b) → unwrap_or r b ≡ first_from b 0 test
first_found None b test e = ap (λ (o : Option ℕ). unwrap_or o b) e ∙ first_of b 0 b test (omega arith)
first_found (Some x) b test e = ap (λ (o : Option ℕ). unwrap_or o b) e ∙ first_of b 0 b test (omega arith)

-- of the eight classes so divided, the first so many are the definition's
module _ (c : Classes) (rows : List Row) where
  by_players : (k : ℕ) → k ≤ 3
      → take (2 ^ k) (table 8 (λ b. first_from b 0 (together (class_list c) (totals rows) b)))
      ≡ table (2 ^ k) (λ b. first_from b 0 (λ x. eqb (get_or (take (2 ^ k) (class_list c)) x 0) (get_or (take (2 ^ k) (class_list c)) b 0) && eqb (total_of x rows) (total_of b rows)))
  by_players zero h = refl
  by_players (suc zero) h = refl
  by_players (suc (suc zero)) h = refl
  by_players (suc (suc (suc zero))) h = refl
  by_players (suc (suc (suc (suc k)))) h = absurd (omega arith)

  pub divided_view : (p : Protocol) → p.script.players ≤ 3 → (sums eight : List ℕ)
      → eight ≡ table 8 (λ b. first_from b 0 (together (class_list c) sums b)) → sums ≡ totals rows
      → take (inputs p) eight ≡ divided p rows (take (inputs p) (class_list c))
  divided_view p h sums eight e f =
      ap (take (inputs p)) e
      ∙ ap (λ (s : List ℕ). take (inputs p) (table 8 (λ b. first_from b 0 (together (class_list c) s b)))) f
      ∙ by_players p.script.players h
