-- Inputs that must look alike, and whether their totals differ.
use Rattle.std.proofs.Common.{◌≡◌, ℕ, ◌^◌, ◌<◌, ◌≤◌, Bool, not, ◌&&◌, eqb, List, get_or, sym, ap, ◌∙◌, arith}
use Rattle.cards.specs.Decks.{bit}
use Rattle.heads.specs.declared.head.Head.{Head}
use Rattle.script.specs.Model.{Output}
use Rattle.protocol.specs.Machine.{Protocol}
use Rattle.protocol.specs.States.{Row, total_of, totals, alike_under, must_look_alike, any_below, leaks}
use Rattle.rows.specs.Nodes.{output_of, Computes}
use Rattle.rows.proofs.Below.{any_same}
use Rattle.rows.proofs.Starts.{few_inputs}
use Rattle.rows.proofs.Totals.{table_at}

abbrev pub parted : Head → List ℕ → ℕ → ℕ → Bool
parted head sums b c =
    alike_under (output_of head.output) (bit head.function b) (bit head.function c) && not (eqb (get_or sums b 0) (get_or sums c 0))

-- whether some of n inputs must look like b and has another total
abbrev pub parts : Head → List ℕ → ℕ → ℕ → Bool
parts head sums n b = any_below n (parted head sums b)

pub leaks_are : (p : Protocol) (rows : List Row) (head : Head) (sums : List ℕ) → head.players ≤ 3 → Computes p head.players head.function → p.script.output ≡ output_of head.output → sums ≡ totals rows → any_below (2 ^ head.players) (parts head sums (2 ^ head.players)) ≡ leaks p rows
leaks_are p rows head sums few h o e =
    any_same (2 ^ head.players) (parts head sums (2 ^ head.players)) (λ b. any_below (2 ^ head.players) (part b))
    (λ b l. any_same (2 ^ head.players) (parted head sums b) (part b) (λ c m. same b c l m))
    ∙ ap (λ (k : ℕ). any_below (2 ^ k) (λ b. any_below (2 ^ k) (part b))) (sym h.players_are)
  where
    part : ℕ → ℕ → Bool
    part b c = must_look_alike p b c && not (eqb (total_of b rows) (total_of c rows))

    total : (b : ℕ) → b < 2 ^ head.players → get_or sums b 0 ≡ total_of b rows
    total b l = ap (λ (xs : List ℕ). get_or xs b 0) e ∙ table_at (λ k. total_of k rows) 8 b (let f = few_inputs head.players few in omega arith)

    alike : (b c : ℕ) → alike_under (output_of head.output) (bit head.function b) (bit head.function c) ≡ must_look_alike p b c
    alike b c =
        ap (λ (x : Output). alike_under x (bit head.function b) (bit head.function c)) (sym o)
        ∙ ap (λ (f : ℕ). alike_under p.script.output (bit f b) (bit f c)) (sym h.function_is)

    same : (b c : ℕ) → b < 2 ^ head.players → c < 2 ^ head.players → parted head sums b c ≡ part b c
    same b c l m =
        ap (λ (t : Bool). t && not (eqb (get_or sums b 0) (get_or sums c 0))) (alike b c)
        ∙ ap (λ (x : ℕ). must_look_alike p b c && not (eqb x (get_or sums c 0))) (total b l)
        ∙ ap (λ (x : ℕ). must_look_alike p b c && not (eqb (total_of b rows) x)) (total c m)
