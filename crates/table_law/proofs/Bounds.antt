-- Sequence numbers and weights of all rows in a tree.
use Rattle.std.proofs.Common.{◌≡◌, ℕ, zero, suc, ◌+◌, ◌*◌, ◌^◌, ◌<◌, ◌≤◌, List, [], ◌∷◌, length, get_or, take, Some, sym, ap, ◌∙◌, subst, inl, inr, mul-zero, pow-suc, add-one, arith}
use Rattle.std.specs.Int.Digits.{number_from_digits}
use Rattle.std.proofs.lemmas.Int.Digits.{number_more}
use Rattle.std.specs.List.{AllByRecursion}
use Rattle.std.proofs.ByRecursion.{All-weaker}
use Rattle.std.proofs.lemmas.List.{get_or_past}
use Rattle.std.proofs.lemmas.Bool.{cases_lt}
use Rattle.cards.specs.Rows.{packed, Dealt}
use Rattle.cards.proofs.Moves.{unpack_dealt}
use Rattle.script.specs.Model.{Action, permute, shuffle, turn, committed, opened, none, LawfulAction}
use Rattle.protocol.specs.Machine.{Protocol, LawfulProtocol, inputs, action_at, Mixing, target}
use Rattle.protocol.specs.States.{Row, weight, cards_of, start_state, children, total_of, Weighted}
use Rattle.protocol.specs.Tree.{Node, nodes, child_node, root, events}
use Rattle.protocol.proofs.Sums.{all_zero, cond_ge}
use Rattle.protocol.proofs.Weighed.{Inward, weighed_one, weighed_started}
use Rattle.protocol.proofs.TreeSum.{OnScript, lawful_at, onward, inward_permuting, inward_shuffling}
use Rattle.protocol.proofs.Nodes.{Mixes, ByMixing, ByTurn, all_nodes, mixing_later, turn_later}
use Rattle.protocol.proofs.Good.{Packed, Good}
use Rattle.protocol.proofs.Reached.{root_on, nodes_good, all_both}
use Rattle.protocol.proofs.Trees.{total_mixed, total_children}
use Rattle.table_law.specs.Rows.{RowInBounds, RowsInBounds}

-- a number of k digits is below 16^k
number_low : (ds : List ℕ) (k : ℕ) → k ≤ length ds → ((s : ℕ) → s < k → get_or ds s 0 < 16) → number_from_digits 16 (take k ds) < 16 ^ k
number_low ds zero h low = omega arith
number_low ds (suc k) h low =
    let here : k < length ds = omega arith in
    let ih = number_low ds k (omega arith) (λ s l. low s (omega arith)) in
    let e : number_from_digits 16 (take (suc k) ds) ≡ number_from_digits 16 (take k ds) * 16 + get_or ds k 0 =
    ap (λ i. number_from_digits 16 (take i ds)) (sym (add-one k)) ∙ number_more 16 ds k here in
    let d = low k (omega arith) in
    let q = pow-suc 16 k in
    omega arith

packed_low : (n : ℕ) (row : List ℕ) → n ≤ 12 → Dealt n row → packed n row < 16 ^ n
packed_low n row few d = number_low row n (let l = d.long in omega arith) d.cards

sequence_low : (n : ℕ) (r : Row) → n ≤ 12 → Packed n r → r.sequence < 16 ^ n
sequence_low n r few e = subst (λ x. x < 16 ^ n) e (packed_low n (cards_of n r) few (unpack_dealt n r.sequence few))

-- The totals under numbers that are no input are 0, and so are the weights.

swapped_all : {X : Type 0} (D : ℕ → Type 0) (P : X → ℕ → Type 0) (xs : List X) → ((b : ℕ) → D b → AllByRecursion (λ x. P x b) xs) → AllByRecursion (λ x. (b : ℕ) → D b → P x b) xs
swapped_all D P [] h = tt
swapped_all D P (x ∷ xs) h = ((λ b d. (h b d).0), swapped_all D P xs (λ b d. (h b d).1))

mixing_inward : (p : Protocol) → LawfulProtocol p → (l : ℕ) (action : Action) → LawfulAction p.script.cards p.script.lines l action → (m : Mixing) → Mixes p l action m → Inward p.script.cards m
mixing_inward p ok l (permute images next) law m e = subst (Inward p.script.cards) (sym e) (inward_permuting p l next images law)
mixing_inward p ok l (shuffle total next) law m e = subst (Inward p.script.cards) (sym e) (inward_shuffling p ok l total next law)
mixing_inward p ok l (turn places branches) law m e = absurd e
mixing_inward p ok l (committed left right) law m e = absurd e
mixing_inward p ok l (opened value) law m e = absurd e
mixing_inward p ok l none law m e = absurd e

-- one of the eight numbers that have weights, but no input
pub record NoInput (p : Protocol) (b : ℕ) : Type 0 where
  pub past : inputs p ≤ b
  pub weighed : b < 8

module _ (p : Protocol) (ok : LawfulProtocol p) where
  abbrev NoTotals : List Row → Type 0
  NoTotals rows = (b : ℕ) → NoInput p b → total_of b rows ≡ 0

  abbrev Plain : Node → Type 0
  Plain u = OnScript p u.line × NoTotals u.rows

  start_plain : NoTotals (start_state p)
  start_plain b i =
      sym (weighed_one p.script.cards b (start_state p))
      ∙ weighed_started p b (λ a. 1) ok i.weighed (inputs p)
      ∙ cond_ge b (inputs p) 1 0 i.past

  plain_mixing : ByMixing p Plain
  plain_mixing u m e h =
      let law = lawful_at p ok u.line h.0 in (
        onward p u.line m.next h.0 (mixing_later p ok u.line h.0 (action_at p u.line) law m e),
        (λ b i.
            total_mixed p.script.cards b m i.weighed ok.script.few_cards (mixing_inward p ok u.line (action_at p u.line) law m e) u.rows
            ∙ ap (λ x. m.total * x) (h.1 b i) ∙ mul-zero m.total),
      )

  plain_turn : ByTurn p Plain
  plain_turn u places branches e h =
      All-weaker (λ c. NoTotals c.rows)
      (λ c. (number l : ℕ) → target c.marks branches ≡ Some l → Plain (child_node u c number l))
      (λ c t number l f. (onward p u.line l h.0 (turn_later p ok u.line h.0 places branches e c.marks l f), t))
      (children p.script.cards places u.rows)
      (swapped_all (NoInput p) (λ c b. total_of b c.rows ≡ 0) (children p.script.cards places u.rows)
      (λ b i. all_zero (λ c. total_of b c.rows) (children p.script.cards places u.rows)
      (sym (total_children p.script.cards b places u.rows) ∙ h.1 b i)))

  nodes_plain : AllByRecursion Plain (nodes p)
  unfolding events
  nodes_plain =
      all_nodes p Plain plain_mixing plain_turn p.script.lines (root p) (root_on p ok, start_plain)

  in_bounds : (r : Row) → Weighted r × Packed p.script.cards r → ((b : ℕ) → NoInput p b → weight b r ≡ 0) → RowInBounds p r
  in_bounds r w z =
      record {
        sequence = sequence_low p.script.cards r ok.script.few_cards w.1;
        no_input = λ b h.
            elim (cases_lt b 8) [
              | inl l ↦ z b (record { past = h; weighed = l })
              | inr l ↦ get_or_past r.weights b 0 (rw w.0.eight l)
            ];
      }

  rows_in_bounds : (u : Node) → Good p.script.cards u.rows → Plain u → AllByRecursion (RowInBounds p) u.rows
  rows_in_bounds u g h =
      all_both (λ r. Weighted r × Packed p.script.cards r) (λ r. (b : ℕ) → NoInput p b → weight b r ≡ 0) (RowInBounds p)
      in_bounds u.rows
      (all_both Weighted (Packed p.script.cards) (λ r. Weighted r × Packed p.script.cards r) (λ r w k. (w, k)) u.rows g.state.weighted g.numbered)
      (swapped_all (NoInput p) (λ r b. weight b r ≡ 0) u.rows (λ b i. all_zero (weight b) u.rows (h.1 b i)))

  all_in_bounds : AllByRecursion (λ u. AllByRecursion (RowInBounds p) u.rows) (nodes p)
  all_in_bounds =
      all_both (λ u. Good p.script.cards u.rows) Plain (λ u. AllByRecursion (RowInBounds p) u.rows) rows_in_bounds
      (nodes p) (nodes_good p ok) nodes_plain

pub rows_in_bounds_law : RowsInBounds
rows_in_bounds_law p ok = all_in_bounds p ok
