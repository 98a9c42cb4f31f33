-- On a certified protocol the cards on the table are always those of a row with weight at a node of the tree. So a turn
-- has its branch, and a result reads a bit.
use Rattle.std.proofs.Common.{◌≡◌, ℕ, zero, suc, ◌+◌, ◌-◌, ◌*◌, ◌<◌, ◌≤◌, Bool, true, false, cond, not, eqb, ltb, List, [], ◌∷◌, length, Some, None, sum_by, sym, refl, ap, ◌∙◌, subst, inl, inr, mul-zero, arith, lt-ltb, ltb-true}
use Rattle.std.proofs.Math.Nat.{mul-le-mul_left}
use Rattle.std.specs.List.{AllByRecursion}
use Rattle.std.proofs.ByRecursion.{All-weaker, all-has}
use Rattle.std.proofs.lemmas.List.Sums.{sum_by-cons}
use Rattle.std.proofs.lemmas.Bool.{cases_lt, and_cases, not-false, false≢true}
use Rattle.cards.specs.Decks.{bit_reading}
use Rattle.cards.specs.declared.reading.Reading.{Reading}
use Rattle.cards.specs.declared.reading.Reading.TheVariants.{Zero, One, Neither}
use Rattle.script.specs.Model.{Branch, Action, permute, shuffle, turn, committed, opened, none}
use Rattle.protocol.specs.Machine.{Protocol, LawfulProtocol, inputs, value, action_at, laid, Mixing, permuting, shuffling, moved, marks_at, same, target, branched, acted, is_result, given, one_if, sum_below}
use Rattle.protocol.specs.States.{Row, weight, cards_of, Child, children, mixed, total_of, same_reading}
use Rattle.protocol.specs.Tree.{Node, nodes, root, mixed_node, child_node, Certificate, Certified, is_wrong}
use Rattle.protocol.specs.Table.{Phase, empty, running, ended, Table, empty_table, Call, lay, step, turn_up, finish, where_now, Answer, began, stepped, turned, finished, stands_at, refused, Reply, refuse, run_of, after_step, after_turn, after_finish, step_at, turn_at, finish_at, when_running, replied, preceded, session}
use Rattle.protocol.proofs.Same.{same_true, same_refl}
use Rattle.protocol.proofs.Weighed.{weighed, weighed_cons, weighed_mixed, weighed_start, weighed_children, weighed_const, Inward}
use Rattle.protocol.proofs.TreeSum.{inward_permuting, inward_shuffling}
use Rattle.protocol.proofs.Reached.{below_eight}
use Rattle.protocol.proofs.Scan.{certify_built, faultless_nodes}
use Rattle.protocol.proofs.Certified.{RightRow, RightAt, right_from, same_reading_true}
use Rattle.protocol.proofs.Trees.{Tree, tree_fuel, tree_top, lawful_action, tree_permute, tree_shuffle, tree_turn, whole_tree}
use Rattle.protocol.proofs.Worth.{Laid, replied_laid, lay_refused}
use Rattle.protocol.proofs.Alike.{sits}
use Rattle.table_law.specs.Refusals.{NoRefusal31}

-- the weight that a row of cards has among the rows of a state
abbrev held : ℕ → ℕ → List ℕ → List Row → ℕ
held n b a rows = weighed n b (λ x. one_if (same x a)) rows

one_same : (x a : List ℕ) → x ≡ a → 1 ≤ one_if (same x a)
one_same x a e = let k : one_if (same x a) ≡ 1 = ap one_if (ap (λ y. same y a) e ∙ same_refl a) in omega arith

one_below : (x a : List ℕ) (v : ℕ) → (x ≡ a → 1 ≤ v) → one_if (same x a) ≤ v
one_below x a v h = go (same x a) refl
  where
    go : (t : Bool) → same x a ≡ t → one_if t ≤ v
    go true e = h (same_true x a e)
    go false e = omega arith

weighed_more : (n b : ℕ) (f g : List ℕ → ℕ) → ((a : List ℕ) → f a ≤ g a) → (rows : List Row) → weighed n b f rows ≤ weighed n b g rows
weighed_more n b f g h [] = omega arith
weighed_more n b f g h (r ∷ rs) =
    let x = weighed_cons n b f r rs in
    let y = weighed_cons n b g r rs in
    let ih = weighed_more n b f g h rs in
    let m : weight b r * f (cards_of n r) ≤ weight b r * g (cards_of n r) = mul-le-mul_left (weight b r) (h (cards_of n r)) in
    omega arith

term_below : (n : ℕ) (f : ℕ → ℕ) (d : ℕ) → d < n → f d ≤ sum_below n f
unfolding sum_below
term_below zero f d h = absurd (omega arith)
term_below (suc n) f d h =
    elim (cases_lt d n) [
      | inl l ↦ let ih = term_below n f d l in omega arith
      | inr l ↦ let e : d ≡ n = omega arith in let q = ap f e in omega arith
    ]

-- after a permute or a shuffle
held_mixed : (n b : ℕ) (m : Mixing) → b < 8 → n ≤ 12 → Inward n m → (d : ℕ) → d < m.total → (a : List ℕ) (rows : List Row) → 1 ≤ held n b a rows → 1 ≤ held n b (moved m d a) (mixed n m rows)
held_mixed n b m few cards ins d h a rows l =
    let whole = weighed_mixed n b (λ x. one_if (same x (moved m d a))) m few cards ins rows in
    let term = term_below m.total (λ i. weighed n b (λ x. one_if (same (moved m i x) (moved m d a))) rows) d h in
    let more =
    weighed_more n b (λ x. one_if (same x a)) (λ x. one_if (same (moved m d x) (moved m d a)))
    (λ x. one_below x a (one_if (same (moved m d x) (moved m d a))) (λ e. one_same (moved m d x) (moved m d a) (ap (moved m d) e))) rows in
    omega arith

-- in the child of a turn that has the marks shown
module _ (n b : ℕ) (places a : List ℕ) where
  abbrev only : List ℕ → List ℕ → ℕ
  only marks x = cond (same marks (marks_at places a)) (one_if (same x a)) 0

  held_children : (rows : List Row) → 1 ≤ held n b a rows → 1 ≤ sum_by (λ c. weighed n b (only c.marks) c.rows) (children n places rows)
  held_children rows l =
      let whole = weighed_children n b places only rows in
      let more =
      weighed_more n b (λ x. one_if (same x a)) (λ x. only (marks_at places x) x)
      (λ x. one_below x a (only (marks_at places x) x) (itself x)) rows in
      omega arith
    where
      itself : (x : List ℕ) → x ≡ a → 1 ≤ only (marks_at places x) x
      itself x e =
          let k : only (marks_at places x) x ≡ 1 =
          ap (λ y. only (marks_at places y) y) e
          ∙ ap (λ t. cond t (one_if (same a a)) 0) (same_refl (marks_at places a))
          ∙ ap one_if (same_refl a) in
          omega arith

  record Chosen (p : Protocol) (P : Node → Type 0) (k : ℕ) (u : Node) (branches : List Branch) : Type 0 where
    child : Child
    number : ℕ
    line : ℕ
    branch : target (marks_at places a) branches ≡ Some line
    tree : Tree p P k (child_node u child number line)
    holds : 1 ≤ held n b a child.rows

  chosen : (p : Protocol) (P : Node → Type 0) (k : ℕ) (u : Node) (branches : List Branch) (cs : List Child) → AllByRecursion (λ c. (number : ℕ) × (l : ℕ) × (target c.marks branches ≡ Some l) × Tree p P k (child_node u c number l)) cs → 1 ≤ sum_by (λ c. weighed n b (only c.marks) c.rows) cs → Chosen p P k u branches
  chosen p P k u branches [] all h = absurd (omega arith)
  chosen p P k u branches (c ∷ cs) all h =
      go (same c.marks (marks_at places a)) refl (chosen p P k u branches cs all.1)
    where
      parts : sum_by (λ c. weighed n b (only c.marks) c.rows) (c ∷ cs) ≡ weighed n b (only c.marks) c.rows + sum_by (λ c. weighed n b (only c.marks) c.rows) cs
      parts = sum_by-cons (λ c. weighed n b (only c.marks) c.rows) c cs

      go : (t : Bool) → same c.marks (marks_at places a) ≡ t → (1 ≤ sum_by (λ c. weighed n b (only c.marks) c.rows) cs → Chosen p P k u branches) → Chosen p P k u branches
      go true e ih =
          let q : weighed n b (only c.marks) c.rows ≡ held n b a c.rows =
          ap (λ t. weighed n b (λ x. cond t (one_if (same x a)) 0) c.rows) e in
          elim (cases_lt 0 (held n b a c.rows)) [
            | inl l ↦
                record {
                  child = c;
                  number = all.0.0;
                  line = all.0.1;
                  branch = ap (λ marks. target marks branches) (sym (same_true c.marks (marks_at places a) e)) ∙ all.0.2;
                  tree = all.0.3;
                  holds = omega arith;
                }
            | inr l ↦ ih (let s = parts in omega arith)
          ]
      go false e ih =
          let q : weighed n b (only c.marks) c.rows ≡ 0 =
          ap (λ t. weighed n b (λ x. cond t (one_if (same x a)) 0) c.rows) e ∙ weighed_const n b 0 c.rows ∙ mul-zero (total_of b c.rows) in
          ih (let s = parts in omega arith)

-- and at a result
not_neither : (v : ℕ) → bit_reading v ≡ Neither → ⊥
not_neither v = go (eqb v 0)
  where
    go : (t : Bool) → cond t Zero One ≡ Neither → ⊥
    go true e = let z : ◌≡◌ {A = ℕ} 0 1 = cc in omega arith
    go false e = let z : ◌≡◌ {A = ℕ} 0 1 = cc in omega arith

module _ (p : Protocol) (b : ℕ) (hb : b < inputs p) (action : Action) (a : List ℕ) where
  held_reads : (rows : List Row) → AllByRecursion (RightRow p action) rows → 1 ≤ held p.script.cards b a rows → given p.deck a action ≡ bit_reading (value p b)
  held_reads [] right h = absurd (omega arith)
  held_reads (r ∷ rs) right h = go (same (cards_of n r) a) refl (held_reads rs right.1)
    where
      n : ℕ
      n = p.script.cards

      parts : held n b a (r ∷ rs) ≡ weight b r * one_if (same (cards_of n r) a) + held n b a rs
      parts = weighed_cons n b (λ x. one_if (same x a)) r rs

      here : same (cards_of n r) a ≡ true → 0 < weight b r → given p.deck a action ≡ bit_reading (value p b)
      here e l =
          ap (λ x. given p.deck x action) (sym (same_true (cards_of n r) a e))
          ∙ elim (and_cases (ltb 0 (weight b r)) (not (same_reading (given p.deck (cards_of n r) action) (bit_reading (value p b)))) (right.0 b hb)) [
            | inl f ↦ absurd (false≢true (sym f ∙ lt-ltb 0 (weight b r) l))
            | inr f ↦
                same_reading_true (given p.deck (cards_of n r) action) (bit_reading (value p b))
                (not-false (same_reading (given p.deck (cards_of n r) action) (bit_reading (value p b))) f)
          ]

      go : (t : Bool) → same (cards_of n r) a ≡ t → (1 ≤ held n b a rs → given p.deck a action ≡ bit_reading (value p b)) → given p.deck a action ≡ bit_reading (value p b)
      go true e ih =
          let q : weight b r * one_if (same (cards_of n r) a) ≡ weight b r * 1 = ap (λ t. weight b r * one_if t) e in
          elim (cases_lt 0 (weight b r)) [ inl l ↦ here e l | inr l ↦ ih (let s = parts in omega arith) ]
      go false e ih =
          let q : weight b r * one_if (same (cards_of n r) a) ≡ weight b r * 0 = ap (λ t. weight b r * one_if t) e in
          ih (let s = parts in omega arith)

-- a node of the tree at this line, in whose state these cards have weight
record Playing (p : Protocol) (b line : ℕ) (cards : List ℕ) : Type 0 where
  depth : ℕ
  node : Node
  tree : Tree p (RightAt p) depth node
  stands : node.line ≡ line
  holds : 1 ≤ held p.script.cards b cards node.rows

-- an answer that is not refusal 31
abbrev Free : Answer → Type 0
Free (began l) = Unit
Free (stepped l) = Unit
Free (turned l w) = Unit
Free (finished v) = Unit
Free (stands_at w) = Unit
Free (refused f) = f.number ≡ 31 → ⊥

record Goes (p : Protocol) (b : ℕ) (r : Reply) : Type 0 where
  free : Free r.answer
  playing : Playing p b r.table.line r.table.cards

module _ (p : Protocol) (ok : LawfulProtocol p) (b : ℕ) (hb : b < inputs p) where
  permuted : (k : ℕ) (u : Node) → Tree p (RightAt p) k u → (images : List ℕ) (next : ℕ) → action_at p u.line ≡ permute images next → (a : List ℕ) → 1 ≤ held p.script.cards b a u.rows → Playing p b next (moved (permuting images next) 0 a)
  permuted zero u tree images next e a h = absurd (tree_fuel p (RightAt p) u tree)
  permuted (suc k) u tree images next e a h =
      record {
        depth = k;
        node = mixed_node p (permuting images next) u;
        tree = tree_permute p ok (RightAt p) k u tree images next e;
        stands = refl;
        holds = held_mixed p.script.cards b (permuting images next) (below_eight p ok b hb) ok.script.few_cards
            (inward_permuting p u.line next images (lawful_action p ok (RightAt p) k u tree (permute images next) e))
            0 (omega arith) a u.rows h;
      }

  shuffled : (k : ℕ) (u : Node) → Tree p (RightAt p) k u → (total next : ℕ) → action_at p u.line ≡ shuffle total next → (l d : ℕ) → u.line ≡ l → d < total → (a : List ℕ) → 1 ≤ held p.script.cards b a u.rows → Playing p b next (moved (shuffling p l total next) d a)
  shuffled zero u tree total next e l d at small a h = absurd (tree_fuel p (RightAt p) u tree)
  shuffled (suc k) u tree total next e l d at small a h =
      record {
        depth = k;
        node = mixed_node p (shuffling p u.line total next) u;
        tree = tree_shuffle p ok (RightAt p) k u tree total next e;
        stands = refl;
        holds = subst
            (λ y. 1 ≤ held p.script.cards b (moved (shuffling p y total next) d a) (mixed p.script.cards (shuffling p u.line total next) u.rows))
            at
            (held_mixed p.script.cards b (shuffling p u.line total next) (below_eight p ok b hb) ok.script.few_cards
            (inward_shuffling p ok u.line total next (lawful_action p ok (RightAt p) k u tree (shuffle total next) e))
            d small a u.rows h);
      }

  -- the branch, and where it leads
  record Branched (a marks : List ℕ) (branches : List Branch) : Type 0 where
    next : ℕ
    branch : target marks branches ≡ Some next
    playing : Playing p b next a

  turned_up : (k : ℕ) (u : Node) → Tree p (RightAt p) k u → (places : List ℕ) (branches : List Branch) → action_at p u.line ≡ turn places branches → (a : List ℕ) → 1 ≤ held p.script.cards b a u.rows → Branched a (marks_at places a) branches
  turned_up zero u tree places branches e a h = absurd (tree_fuel p (RightAt p) u tree)
  turned_up (suc k) u tree places branches e a h =
      record {
        next = c.line;
        branch = c.branch;
        playing = record { depth = k; node = child_node u c.child c.number c.line; tree = c.tree; stands = refl; holds = c.holds };
      }
    where
      c : Chosen p.script.cards b places a p (RightAt p) k u branches
      c =
          chosen p.script.cards b places a p (RightAt p) k u branches (children p.script.cards places u.rows)
          (tree_turn p ok (RightAt p) k u tree places branches e)
          (held_children p.script.cards b places a u.rows h)

  module _ (t : Table) (bytes : List ℕ) (play : Playing p b t.line t.cards) where
    at_node : (action : Action) → action_at p t.line ≡ action → action_at p play.node.line ≡ action
    at_node action e = ap (action_at p) play.stands ∙ e

    stays : (number : ℕ) → (number ≡ 31 → ⊥) → Goes p b (refuse t bytes number)
    stays number ne = record { free = ne; playing = play }

    step_goes : (d : ℕ) (action : Action) → action_at p t.line ≡ action → Goes p b (step_at p t bytes d action)
    step_goes d (permute images next) e = go (ltb d 1)
      where
        go : (z : Bool) → Goes p b (cond z (after_step t bytes 29 (acted p (run_of t []) (permute images next))) (refuse t bytes 29))
        go true =
            record {
              free = tt;
              playing = permuted play.depth play.node play.tree images next (at_node (permute images next) e) t.cards play.holds;
            }
        go false = stays 29 (λ q. omega arith)
    step_goes d (shuffle total next) e = go (ltb d total) refl
      where
        go : (z : Bool) → ltb d total ≡ z → Goes p b (after_step t bytes 29 (cond z (Some (record { line = next; cards = moved (shuffling p t.line total next) d t.cards; trace = []; draws = [] })) None))
        go true f =
            record {
              free = tt;
              playing = shuffled play.depth play.node play.tree total next (at_node (shuffle total next) e) t.line d play.stands (ltb-true d total f) t.cards play.holds;
            }
        go false f = stays 29 (λ q. omega arith)
    step_goes d (turn places branches) e = stays 28 (λ q. omega arith)
    step_goes d (committed left right) e = stays 28 (λ q. omega arith)
    step_goes d (opened output) e = stays 28 (λ q. omega arith)
    step_goes d none e = stays 28 (λ q. omega arith)

    turn_goes : (action : Action) → action_at p t.line ≡ action → Goes p b (turn_at p t bytes action)
    turn_goes (permute images next) e = stays 28 (λ q. omega arith)
    turn_goes (shuffle total next) e = stays 28 (λ q. omega arith)
    turn_goes (turn places branches) e = go (ltb (length bytes - t.written) (length places))
      where
        marks : List ℕ
        marks = marks_at places t.cards

        shown : Goes p b (after_turn t bytes 31 (branched (run_of t []) marks (target marks branches)))
        shown =
            let c = turned_up play.depth play.node play.tree places branches (at_node (turn places branches) e) t.cards play.holds in
            subst (λ o. Goes p b (after_turn t bytes 31 (branched (run_of t []) marks o))) (sym c.branch)
            (record { free = tt; playing = c.playing })

        go : (z : Bool) → Goes p b (cond z (refuse t bytes 30) (after_turn t bytes 31 (branched (run_of t []) marks (target marks branches))))
        go true = stays 30 (λ q. omega arith)
        go false = shown
    turn_goes (committed left right) e = stays 28 (λ q. omega arith)
    turn_goes (opened output) e = stays 28 (λ q. omega arith)
    turn_goes none e = stays 28 (λ q. omega arith)

    read_goes : (action : Action) → action_at p t.line ≡ action → is_result action ≡ true → (r : Reading) → given p.deck t.cards action ≡ r → Goes p b (after_finish t bytes 31 r)
    read_goes action e f Zero g = record { free = tt; playing = play }
    read_goes action e f One g = record { free = tt; playing = play }
    read_goes action e f Neither g =
        absurd (not_neither (value p b)
        (sym (held_reads p b hb action t.cards play.node.rows
        (subst (λ x. is_result x ≡ true → AllByRecursion (RightRow p x) play.node.rows) (at_node action e)
        (tree_top p (RightAt p) play.depth play.node play.tree) f)
        play.holds)
        ∙ g))

    finish_goes : (action : Action) → action_at p t.line ≡ action → Goes p b (finish_at p t bytes action)
    finish_goes (permute images next) e = stays 28 (λ q. omega arith)
    finish_goes (shuffle total next) e = stays 28 (λ q. omega arith)
    finish_goes (turn places branches) e = stays 28 (λ q. omega arith)
    finish_goes (committed left right) e = read_goes (committed left right) e refl (given p.deck t.cards (committed left right)) refl
    finish_goes (opened output) e = read_goes (opened output) e refl (given p.deck t.cards (opened output)) refl
    finish_goes none e = stays 28 (λ q. omega arith)

    when_goes : (phase : Phase) (r : Reply) → Goes p b r → Goes p b (when_running t bytes phase r)
    when_goes empty r h = stays 24 (λ q. omega arith)
    when_goes running r h = h
    when_goes ended r h = stays 27 (λ q. omega arith)

    -- every call on a table that is laid
    goes : Laid t.phase → (c : Call) → Goes p b (replied p t bytes c)
    goes h (lay x) = subst (Goes p b) (sym (lay_refused p t bytes x t.phase h)) (stays 25 (λ q. omega arith))
    goes h (step d) = when_goes t.phase (step_at p t bytes d (action_at p t.line)) (step_goes d (action_at p t.line) refl)
    goes h turn_up = when_goes t.phase (turn_at p t bytes (action_at p t.line)) (turn_goes (action_at p t.line) refl)
    goes h finish = when_goes t.phase (finish_at p t bytes (action_at p t.line)) (finish_goes (action_at p t.line) refl)
    goes h where_now = record { free = tt; playing = play }

  all_free : (calls : List Call) (t : Table) (bytes : List ℕ) → Laid t.phase → Playing p b t.line t.cards → AllByRecursion Free (session p t bytes calls).answers
  unfolding session
  all_free [] t bytes h play = tt
  all_free (c ∷ cs) t bytes h play =
      let r = replied p t bytes c in
      let g = goes t bytes play h c in
      (g.free, all_free cs r.table r.bytes (replied_laid p t bytes c h) g.playing)

  start_playing : Tree p (RightAt p) p.script.lines (root p) → Playing p b 2 (laid p b)
  start_playing tree =
      record {
        depth = p.script.lines;
        node = root p;
        tree = tree;
        stands = refl;
        holds =
            (let e = weighed_start p b (λ x. one_if (same x (laid p b))) ok hb (below_eight p ok b hb) in
            let k = one_same (laid p b) (laid p b) refl in
            omega arith);
      }

module _ (p : Protocol) (ok : LawfulProtocol p) (tree : Tree p (RightAt p) p.script.lines (root p)) (bytes : List ℕ) where
  free_from_empty : (calls : List Call) → AllByRecursion Free (session p empty_table bytes calls).answers
  unfolding session
  free_from_empty [] = tt
  free_from_empty (lay x ∷ cs) = go (ltb x (inputs p)) refl (free_from_empty cs)
    where
      reply : Bool → Reply
      reply z =
          cond z (record { answer = began 2; table = sits running 2 0 (laid p x); bytes = bytes })
          (refuse empty_table bytes 26)

      go : (z : Bool) → ltb x (inputs p) ≡ z → AllByRecursion Free (session p empty_table bytes cs).answers → AllByRecursion Free (preceded (reply z).answer (session p (reply z).table (reply z).bytes cs)).answers
      go true e ih =
          let h = ltb-true x (inputs p) e in
          (tt, all_free p ok x h cs (sits running 2 0 (laid p x)) bytes tt (start_playing p ok x h tree))
      go false e ih = ((λ q. omega arith), ih)
  free_from_empty (step d ∷ cs) = ((λ q. omega arith), free_from_empty cs)
  free_from_empty (turn_up ∷ cs) = ((λ q. omega arith), free_from_empty cs)
  free_from_empty (finish ∷ cs) = ((λ q. omega arith), free_from_empty cs)
  free_from_empty (where_now ∷ cs) = (tt, free_from_empty cs)

-- the tree of a certified protocol
right_tree : (p : Protocol) → LawfulProtocol p → (bench : ℕ) (c : Certificate) → Certified p bench c → Tree p (RightAt p) p.script.lines (root p)
right_tree p ok bench c cert =
    whole_tree p ok (RightAt p) (certify_built p bench c cert.built).made_all
    (All-weaker (λ u. is_wrong p u ≡ false) (RightAt p) (right_from p) (nodes p)
    (faultless_nodes p bench c cert.built cert.faultless).right)

pub no_refusal_31 : NoRefusal31
no_refusal_31 p ok bench c cert bytes calls f has =
    all-has Free (session p empty_table bytes calls).answers (refused f)
    (free_from_empty p ok (right_tree p ok bench c cert) bytes calls) has
