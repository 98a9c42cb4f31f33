-- At each node of a certified tree, the rows under one input make a list of calls worth what the rows under another
-- input of its class make it.
use Rattle.std.proofs.Common.{◌≡◌, ℕ, zero, suc, ◌+◌, ◌-◌, ◌*◌, ◌<◌, ◌≤◌, Bool, true, false, cond, not, eqb, ltb, ◌⊎◌, List, [], ◌∷◌, ◌++◌, length, Some, None, sym, refl, ap, ◌∙◌, subst, inl, inr, mul-zero, zero-mul, arith, ltb-false}
use mathlib.Core.Path.{fun_ext}
use Rattle.std.specs.List.{AllByRecursion}
use Rattle.std.proofs.ByRecursion.{All-weaker}
use Rattle.std.proofs.lemmas.Bool.{and_cases, not-false}
use Rattle.cards.specs.Decks.{bit_reading}
use Rattle.cards.specs.declared.reading.Reading.{Reading}
use Rattle.cards.specs.declared.reading.Reading.TheVariants.{Zero, One}
use Rattle.script.specs.Model.{Branch, Action, permute, shuffle, turn, committed, opened, none}
use Rattle.protocol.specs.Machine.{Protocol, LawfulProtocol, inputs, value, action_at, Mixing, permuting, shuffling, moved, target, branched, acted, is_result, given, sum_below}
use Rattle.protocol.specs.States.{Row, weight, cards_of, Child, children, mixed, total_of, same_reading}
use Rattle.protocol.specs.Tree.{Node, mixed_node, child_node}
use Rattle.protocol.specs.Table.{Phase, running, ended, Table, Answer, stepped, turned, finished, stands_at, Reply, refuse, run_of, bytes_of, overwritten, after_step, after_turn, after_finish, step_at, turn_at, finish_at, replied, call_of, Asked, lay_own, lay_other, lay_same, ask_turn, ask_finish, ask_where, Planned, step_drawn, asked, finishes}
use Rattle.protocol.proofs.Sums.{sum_by_all, sum_below_split, sum_below_const}
use Rattle.protocol.proofs.Weighed.{weighed, weighed_ext, weighed_add, weighed_const, weighed_mixed, weighed_children, weighed_sum_below, Inward}
use Rattle.protocol.proofs.TreeSum.{inward_permuting, inward_shuffling}
use Rattle.protocol.proofs.Certified.{same_reading_true, RightRow, RightAt}
use Rattle.protocol.proofs.Trees.{Tree, tree_fuel, lawful_action, tree_permute, tree_shuffle, Grown, tree_turn}
use Rattle.protocol.proofs.Worth.{After, then_worth, worth, worth_zero}

-- a table at a line with these cards
abbrev pub sits : Phase → ℕ → ℕ → List ℕ → Table
sits phase l w a = record { phase = phase; line = l; cards = a; written = w }

-- one total under the two inputs, and every row that counts gives the function's value
pub record Sound (p : Protocol) (b d : ℕ) (u : Node) : Type 0 where
  pub even : total_of b u.rows ≡ total_of d u.rows
  pub right : RightAt p u

-- a function of what comes after that does not tell the two inputs apart at a node
abbrev pub Balanced : Protocol → ℕ → ℕ → After → Type 0
Balanced p b d after =
    (u : Node) → Sound p b d u → (answers : List Answer) (phase : Phase) (w : ℕ) (bytes : List ℕ)
    → weighed p.script.cards b (λ a. after answers (sits phase u.line w a) bytes) u.rows
    ≡ weighed p.script.cards d (λ a. after answers (sits phase u.line w a) bytes) u.rows

-- it counts no answers in which a finish is granted
abbrev pub Unfinished : After → Type 0
Unfinished after = (answers : List Answer) (t : Table) (bytes : List ℕ) → finishes answers ≡ true → after answers t bytes ≡ 0

pub record Fair (p : Protocol) (b d : ℕ) (after : After) : Type 0 where
  pub balanced : Balanced p b d after
  pub by_value : (value p b ≡ value p d) ⊎ Unfinished after

pub fair_next : (p : Protocol) (b d : ℕ) (after : After) (answer : Answer) → ((answers : List Answer) → finishes (answer ∷ answers) ≡ finishes answers) → Fair p b d after → Fair p b d (λ answers. after (answer ∷ answers))
fair_next p b d after answer h f =
    record {
      balanced = λ u s answers. f.balanced u s (answer ∷ answers);
      by_value =
          elim f.by_value [
            | inl e ↦ inl e
            | inr z ↦ inr (λ answers t bytes e. z (answer ∷ answers) t bytes (h answers ∙ e))
          ];
    }

-- two sums over a mixing, those of the draws below its total and those of the others
weighed_draws : (n c b : ℕ) (m : Mixing) (f g : List ℕ → ℕ) → b < 8 → c ≤ 12 → Inward c m → m.total ≤ n → (rows : List Row) → weighed c b (λ a. sum_below n (λ i. cond (ltb i m.total) (f (moved m i a)) (g a))) rows ≡ weighed c b f (mixed c m rows) + sum_below (n - m.total) (λ i. weighed c b g rows)
weighed_draws n c b m f g few cards ins fits rows =
    weighed_ext c b (λ a. sum_below n (λ i. cond (ltb i m.total) (f (moved m i a)) (g a)))
    (λ a. sum_below m.total (λ i. f (moved m i a)) + sum_below (n - m.total) (λ i. g a))
    (λ a.
    sum_below_split n m.total (λ i. f (moved m i a)) (g a) fits
    ∙ ap (λ x. sum_below m.total (λ i. f (moved m i a)) + x) (sym (sum_below_const (n - m.total) (g a))))
    rows
    ∙ weighed_add c b (λ a. sum_below m.total (λ i. f (moved m i a))) (λ a. sum_below (n - m.total) (λ i. g a)) rows
    ∙ ap (λ x. x + weighed c b (λ a. sum_below (n - m.total) (λ i. g a)) rows)
    (weighed_sum_below c b m.total (λ i a. f (moved m i a)) rows ∙ sym (weighed_mixed c b f m few cards ins rows))
    ∙ ap (λ x. weighed c b f (mixed c m rows) + x) (weighed_sum_below c b (n - m.total) (λ i a. g a) rows)

-- at a result node, what depends on the reading depends on the function's value
weighed_right : (p : Protocol) (b : ℕ) → b < inputs p → (action : Action) (h : Reading → List ℕ → ℕ) (rows : List Row) → AllByRecursion (RightRow p action) rows → weighed p.script.cards b (λ a. h (given p.deck a action) a) rows ≡ weighed p.script.cards b (h (bit_reading (value p b))) rows
weighed_right p b l action h rows right =
    sum_by_all (λ r. weight b r * h (given p.deck (cards_of n r) action) (cards_of n r)) (λ r. weight b r * h (bit_reading (value p b)) (cards_of n r)) rows
    (All-weaker (RightRow p action)
    (λ r. weight b r * h (given p.deck (cards_of n r) action) (cards_of n r) ≡ weight b r * h (bit_reading (value p b)) (cards_of n r))
    each rows right)
  where
    n : ℕ
    n = p.script.cards

    each : (r : Row) → RightRow p action r → weight b r * h (given p.deck (cards_of n r) action) (cards_of n r) ≡ weight b r * h (bit_reading (value p b)) (cards_of n r)
    each r f =
        elim (and_cases (ltb 0 (weight b r)) (not (same_reading (given p.deck (cards_of n r) action) (bit_reading (value p b)))) (f b l)) [
          | inl e ↦
              let z : weight b r ≡ 0 = (let k = ltb-false 0 (weight b r) e in omega arith) in
              ap (λ w. w * h (given p.deck (cards_of n r) action) (cards_of n r)) z
              ∙ zero-mul (h (given p.deck (cards_of n r) action) (cards_of n r))
              ∙ sym (zero-mul (h (bit_reading (value p b)) (cards_of n r)))
              ∙ ap (λ w. w * h (bit_reading (value p b)) (cards_of n r)) (sym z)
          | inr e ↦
              ap (λ x. weight b r * h x (cards_of n r))
              (same_reading_true (given p.deck (cards_of n r) action) (bit_reading (value p b))
              (not-false (same_reading (given p.deck (cards_of n r) action) (bit_reading (value p b))) e))
        ]

-- what an ended table answers
abbrev ended_answer : ℕ → ℕ → Asked → Answer
ended_answer l w lay_own = (refuse (sits ended l w []) [] 25).answer
ended_answer l w lay_other = (refuse (sits ended l w []) [] 25).answer
ended_answer l w (lay_same z) = (refuse (sits ended l w []) [] 25).answer
ended_answer l w ask_turn = (refuse (sits ended l w []) [] 27).answer
ended_answer l w ask_finish = (refuse (sits ended l w []) [] 27).answer
ended_answer l w ask_where = stands_at (record { phase = ended; line = l; written = w })

ended_reply : (p : Protocol) (x y l w : ℕ) (a bytes : List ℕ) (q : Asked) → replied p (sits ended l w a) bytes (call_of x y q) ≡ record { answer = ended_answer l w q; table = sits ended l w a; bytes = bytes }
ended_reply p x y l w a bytes lay_own = refl
ended_reply p x y l w a bytes lay_other = refl
ended_reply p x y l w a bytes (lay_same z) = refl
ended_reply p x y l w a bytes ask_turn = refl
ended_reply p x y l w a bytes ask_finish = refl
ended_reply p x y l w a bytes ask_where = refl

module _ (p : Protocol) (ok : LawfulProtocol p) (n : ℕ) (room : 65535 ≤ n) (b d : ℕ) (hb : b < inputs p) (hd : d < inputs p) (few : b < 8) (few' : d < 8) (x y : ℕ) (P : Node → Type 0) (sound : (k : ℕ) (u : Node) → Tree p P k u → Sound p b d u) where
  -- what the rows of a node make of f, under the two inputs
  abbrev Alike : (List ℕ → ℕ) → List Row → Type 0
  Alike f rows = weighed p.script.cards b f rows ≡ weighed p.script.cards d f rows

  -- after a finish nothing happens
  ended_alike : (plan : List Planned) (after : After) → Balanced p b d after → (u : Node) → Sound p b d u → (w : ℕ) (bytes : List ℕ) → Alike (λ a. worth n p x y plan after (sits ended u.line w a) bytes) u.rows
  ended_alike [] after bal u s w bytes = bal u s [] ended w bytes
  ended_alike (step_drawn ∷ cs) after bal u s w bytes =
      let answer : Answer = (refuse (sits ended u.line w []) bytes 27).answer in
      let f : List ℕ → ℕ = λ a. worth n p x y cs (λ answers. after (answer ∷ answers)) (sits ended u.line w a) bytes in
      weighed_sum_below p.script.cards b n (λ i. f) u.rows
      ∙ ap (λ v. sum_below n (λ i. v)) (ended_alike cs (λ answers. after (answer ∷ answers)) (λ v k answers. bal v k (answer ∷ answers)) u s w bytes)
      ∙ sym (weighed_sum_below p.script.cards d n (λ i. f) u.rows)
  ended_alike (asked q ∷ cs) after bal u s w bytes =
      let answer : Answer = ended_answer u.line w q in
      let f : List ℕ → ℕ = λ a. worth n p x y cs (λ answers. after (answer ∷ answers)) (sits ended u.line w a) bytes in
      weighed_ext p.script.cards b (λ a. then_worth (worth n p x y cs) after (replied p (sits ended u.line w a) bytes (call_of x y q))) f
      (λ a. ap (then_worth (worth n p x y cs) after) (ended_reply p x y u.line w a bytes q)) u.rows
      ∙ ended_alike cs (λ answers. after (answer ∷ answers)) (λ v k answers. bal v k (answer ∷ answers)) u s w bytes
      ∙ sym (weighed_ext p.script.cards d (λ a. then_worth (worth n p x y cs) after (replied p (sits ended u.line w a) bytes (call_of x y q))) f
      (λ a. ap (then_worth (worth n p x y cs) after) (ended_reply p x y u.line w a bytes q)) u.rows)

  -- a step
  abbrev Next : List Planned → Type 0
  Next cs =
      (after : After) → Fair p b d after → (k : ℕ) (u : Node) → Tree p P k u → (w : ℕ) (bytes : List ℕ)
      → Alike (λ a. worth n p x y cs after (sits running u.line w a) bytes) u.rows

  module _ (cs : List Planned) (ih : Next cs) (after : After) (fair : Fair p b d after) (k : ℕ) (u : Node) (t : Tree p P (suc k) u) (w : ℕ) (bytes : List ℕ) where
    abbrev rest : After → Table → List ℕ → ℕ
    rest = worth n p x y cs

    abbrev at : List ℕ → Table
    at a = sits running u.line w a

    -- a call that is refused, whatever the cards
    abbrev refusal : ℕ → Answer
    refusal number = (refuse (at []) bytes number).answer

    stays : (number : ℕ) → Alike (λ a. then_worth rest after (refuse (at a) bytes number)) u.rows
    stays number =
        ih (λ answers. after (refusal number ∷ answers)) (fair_next p b d after (refusal number) (λ answers. refl) fair) (suc k) u t w bytes

    all_stay : (number : ℕ) → Alike (λ a. sum_below n (λ i. then_worth rest after (refuse (at a) bytes number))) u.rows
    all_stay number =
        weighed_sum_below p.script.cards b n (λ i a. then_worth rest after (refuse (at a) bytes number)) u.rows
        ∙ ap (λ v. sum_below n (λ i. v)) (stays number)
        ∙ sym (weighed_sum_below p.script.cards d n (λ i a. then_worth rest after (refuse (at a) bytes number)) u.rows)

    -- where the mixing leads
    abbrev on_to : Mixing → List ℕ → ℕ
    on_to m a = rest (λ answers. after (stepped m.next ∷ answers)) (sits running m.next w a) bytes

    mixes : (m : Mixing) → Tree p P k (mixed_node p m u) → Inward p.script.cards m → m.total ≤ n → Alike (λ a. sum_below n (λ i. cond (ltb i m.total) (on_to m (moved m i a)) (then_worth rest after (refuse (at a) bytes 29)))) u.rows
    mixes m child ins fits =
        weighed_draws n p.script.cards b m (on_to m) (λ a. then_worth rest after (refuse (at a) bytes 29)) few ok.script.few_cards ins fits u.rows
        ∙ ap (λ v. v + sum_below (n - m.total) (λ i. weighed p.script.cards b (λ a. then_worth rest after (refuse (at a) bytes 29)) u.rows))
        (ih (λ answers. after (stepped m.next ∷ answers)) (fair_next p b d after (stepped m.next) (λ answers. refl) fair) k (mixed_node p m u) child w bytes)
        ∙ ap (λ v. weighed p.script.cards d (on_to m) (mixed p.script.cards m u.rows) + sum_below (n - m.total) (λ i. v)) (stays 29)
        ∙ sym (weighed_draws n p.script.cards d m (on_to m) (λ a. then_worth rest after (refuse (at a) bytes 29)) few' ok.script.few_cards ins fits u.rows)

    -- the answers of a step, by the draw
    by_draw : (f g : Reply) (i j : Bool) → i ≡ j → then_worth rest after (cond i f g) ≡ cond j (then_worth rest after f) (then_worth rest after g)
    by_draw f g true j e = subst (λ z. then_worth rest after f ≡ cond z (then_worth rest after f) (then_worth rest after g)) e refl
    by_draw f g false j e = subst (λ z. then_worth rest after g ≡ cond z (then_worth rest after f) (then_worth rest after g)) e refl

    drawn_worth : (a : List ℕ) (m : Mixing) (i : ℕ) (z : Bool) → then_worth rest after (after_step (at a) bytes 29 (cond z (Some (record { line = m.next; cards = moved m i a; trace = []; draws = [] })) None)) ≡ cond z (on_to m (moved m i a)) (then_worth rest after (refuse (at a) bytes 29))
    drawn_worth a m i true = refl
    drawn_worth a m i false = refl

    steps : (action : Action) → action_at p u.line ≡ action → Alike (λ a. sum_below n (λ i. then_worth rest after (step_at p (at a) bytes i action))) u.rows
    steps (permute images next) e =
        let m : Mixing = permuting images next in
        let law = lawful_action p ok P k u t (permute images next) e in
        let h : (a : List ℕ) → sum_below n (λ i. then_worth rest after (step_at p (at a) bytes i (permute images next))) ≡ sum_below n (λ i. cond (ltb i 1) (on_to m (moved m i a)) (then_worth rest after (refuse (at a) bytes 29))) =
        λ a. ap (sum_below n) (fun_ext (λ i. by_draw (after_step (at a) bytes 29 (acted p (run_of (at a) []) (permute images next))) (refuse (at a) bytes 29) (ltb i 1) (ltb i 1) refl)) in
        weighed_ext p.script.cards b (λ a. sum_below n (λ i. then_worth rest after (step_at p (at a) bytes i (permute images next)))) (λ a. sum_below n (λ i. cond (ltb i 1) (on_to m (moved m i a)) (then_worth rest after (refuse (at a) bytes 29)))) h u.rows
        ∙ mixes m (tree_permute p ok P k u t images next e) (inward_permuting p u.line next images law) (omega arith)
        ∙ sym (weighed_ext p.script.cards d (λ a. sum_below n (λ i. then_worth rest after (step_at p (at a) bytes i (permute images next)))) (λ a. sum_below n (λ i. cond (ltb i 1) (on_to m (moved m i a)) (then_worth rest after (refuse (at a) bytes 29)))) h u.rows)
    steps (shuffle total next) e =
        let m : Mixing = shuffling p u.line total next in
        let law = lawful_action p ok P k u t (shuffle total next) e in
        let h : (a : List ℕ) → sum_below n (λ i. then_worth rest after (step_at p (at a) bytes i (shuffle total next))) ≡ sum_below n (λ i. cond (ltb i total) (on_to m (moved m i a)) (then_worth rest after (refuse (at a) bytes 29))) =
        λ a. ap (sum_below n) (fun_ext (λ i. drawn_worth a m i (ltb i total))) in
        weighed_ext p.script.cards b (λ a. sum_below n (λ i. then_worth rest after (step_at p (at a) bytes i (shuffle total next)))) (λ a. sum_below n (λ i. cond (ltb i total) (on_to m (moved m i a)) (then_worth rest after (refuse (at a) bytes 29)))) h u.rows
        ∙ mixes m (tree_shuffle p ok P k u t total next e) (inward_shuffling p ok u.line total next law) (let l = law.1.0 in omega arith)
        ∙ sym (weighed_ext p.script.cards d (λ a. sum_below n (λ i. then_worth rest after (step_at p (at a) bytes i (shuffle total next)))) (λ a. sum_below n (λ i. cond (ltb i total) (on_to m (moved m i a)) (then_worth rest after (refuse (at a) bytes 29)))) h u.rows)
    steps (turn places branches) e = all_stay 28
    steps (committed left right) e = all_stay 28
    steps (opened output) e = all_stay 28
    steps none e = all_stay 28

    -- a turn
    abbrev shown_worth : List Branch → List ℕ → List ℕ → ℕ
    shown_worth branches marks a =
        then_worth rest after (after_turn (at a) bytes 31 (branched (run_of (at a) []) marks (target marks branches)))

    turned_child : (places : List ℕ) (branches : List Branch) → action_at p u.line ≡ turn places branches → (c : Child) → Grown p ok P k u t branches c → Alike (shown_worth branches c.marks) c.rows
    turned_child places branches e c g =
        let l : ℕ = g.1 in
        let bs : List ℕ = bytes_of ([] ++ c.marks ∷ []) in
        let answer : Answer = turned l (w + length bs) in
        let f : List ℕ → ℕ = λ a. rest (λ answers. after (answer ∷ answers)) (sits running l (w + length bs) a) (overwritten bytes w bs) in
        let h : (a : List ℕ) → shown_worth branches c.marks a ≡ f a =
        λ a. ap (λ o. then_worth rest after (after_turn (at a) bytes 31 (branched (run_of (at a) []) c.marks o))) g.2 in
        weighed_ext p.script.cards b (shown_worth branches c.marks) f h c.rows
        ∙ ih (λ answers. after (answer ∷ answers)) (fair_next p b d after answer (λ answers. refl) fair) k (child_node u c g.0 l) g.3 (w + length bs) (overwritten bytes w bs)
        ∙ sym (weighed_ext p.script.cards d (shown_worth branches c.marks) f h c.rows)

    turns : (action : Action) → action_at p u.line ≡ action → Alike (λ a. then_worth rest after (turn_at p (at a) bytes action)) u.rows
    turns (permute images next) e = stays 28
    turns (shuffle total next) e = stays 28
    turns (turn places branches) e = go (ltb (length bytes - w) (length places))
      where
        go : (z : Bool) → Alike (λ a. then_worth rest after (cond z (refuse (at a) bytes 30) (after_turn (at a) bytes 31 (acted p (run_of (at a) []) (turn places branches))))) u.rows
        go true = stays 30
        go false =
            weighed_children p.script.cards b places (shown_worth branches) u.rows
            ∙ sum_by_all (λ c. weighed p.script.cards b (shown_worth branches c.marks) c.rows) (λ c. weighed p.script.cards d (shown_worth branches c.marks) c.rows) (children p.script.cards places u.rows)
            (All-weaker (Grown p ok P k u t branches) (λ c. Alike (shown_worth branches c.marks) c.rows)
            (turned_child places branches e) (children p.script.cards places u.rows) (tree_turn p ok P k u t places branches e))
            ∙ sym (weighed_children p.script.cards d places (shown_worth branches) u.rows)
    turns (committed left right) e = stays 28
    turns (opened output) e = stays 28
    turns none e = stays 28

    -- a finish
    abbrev read_worth : Reading → List ℕ → ℕ
    read_worth r a = then_worth rest after (after_finish (at a) bytes 31 r)

    abbrev ended_worth : ℕ → List ℕ → ℕ
    ended_worth v a = rest (λ answers. after (finished v ∷ answers)) (sits ended u.line w a) bytes

    granted_finish : (v : ℕ) → Alike (ended_worth v) u.rows
    granted_finish v =
        ended_alike cs (λ answers. after (finished v ∷ answers)) (λ z s answers. fair.balanced z s (finished v ∷ answers)) u (sound (suc k) u t) w bytes

    read_alike : (v : ℕ) → Alike (read_worth (bit_reading v)) u.rows
    read_alike v = go (eqb v 0)
      where
        go : (z : Bool) → Alike (read_worth (cond z Zero One)) u.rows
        go true = granted_finish 0
        go false = granted_finish 1

    unfinished_none : Unfinished after → (v : ℕ) (a : List ℕ) → read_worth (bit_reading v) a ≡ 0
    unfinished_none z v a = go (eqb v 0)
      where
        none : (i : ℕ) → ended_worth i a ≡ 0
        none i =
            worth_zero n p x y cs (λ answers. after (finished i ∷ answers)) (λ answers s bs. z (finished i ∷ answers) s bs refl) (sits ended u.line w a) bytes

        go : (y : Bool) → read_worth (cond y Zero One) a ≡ 0
        go true = none 0
        go false = none 1

    reads : (action : Action) → action_at p u.line ≡ action → is_result action ≡ true → Alike (λ a. read_worth (given p.deck a action) a) u.rows
    reads action e f =
        let right : AllByRecursion (RightRow p action) u.rows =
        subst (λ i. AllByRecursion (RightRow p i) u.rows) e ((sound (suc k) u t).right (ap is_result e ∙ f)) in
        weighed_right p b hb action read_worth u.rows right
        ∙ (elim fair.by_value [
          | inl q ↦ ap (λ v. weighed p.script.cards b (read_worth (bit_reading v)) u.rows) q ∙ read_alike (value p d)
          | inr z ↦
              weighed_ext p.script.cards b (read_worth (bit_reading (value p b))) (λ a. 0) (unfinished_none z (value p b)) u.rows
              ∙ weighed_const p.script.cards b 0 u.rows ∙ mul-zero (total_of b u.rows)
              ∙ sym (mul-zero (total_of d u.rows)) ∙ sym (weighed_const p.script.cards d 0 u.rows)
              ∙ sym (weighed_ext p.script.cards d (read_worth (bit_reading (value p d))) (λ a. 0) (unfinished_none z (value p d)) u.rows)
        ])
        ∙ sym (weighed_right p d hd action read_worth u.rows right)

    ends : (action : Action) → action_at p u.line ≡ action → Alike (λ a. then_worth rest after (finish_at p (at a) bytes action)) u.rows
    ends (permute images next) e = stays 28
    ends (shuffle total next) e = stays 28
    ends (turn places branches) e = stays 28
    ends (committed left right) e = reads (committed left right) e refl
    ends (opened output) e = reads (opened output) e refl
    ends none e = stays 28

    asks : (q : Asked) → Alike (λ a. then_worth rest after (replied p (at a) bytes (call_of x y q))) u.rows
    asks lay_own = stays 25
    asks lay_other = stays 25
    asks (lay_same z) = stays 25
    asks ask_turn = turns (action_at p u.line) refl
    asks ask_finish = ends (action_at p u.line) refl
    asks ask_where =
        let answer : Answer = stands_at (record { phase = running; line = u.line; written = w }) in
        ih (λ answers. after (answer ∷ answers)) (fair_next p b d after answer (λ answers. refl) fair) (suc k) u t w bytes

  pub node_alike : (plan : List Planned) → Next plan
  node_alike [] after fair k u t w bytes = fair.balanced u (sound k u t) [] running w bytes
  node_alike (c ∷ cs) after fair zero u t w bytes = absurd (tree_fuel p P u t)
  node_alike (step_drawn ∷ cs) after fair (suc k) u t w bytes =
      steps cs (node_alike cs) after fair k u t w bytes (action_at p u.line) refl
  node_alike (asked q ∷ cs) after fair (suc k) u t w bytes = asks cs (node_alike cs) after fair k u t w bytes q
