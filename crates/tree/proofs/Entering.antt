-- A state that was put into the room, and the node that it is of.
use Rattle.std.proofs.Common.{◌≡◌, ℕ, ◌*◌, ◌<◌, ◌≤◌, true, List, length, take, Some, Option, Result, sym, refl, subst, arith}
use Rattle.std.proofs.lemmas.Bool.{eq-eqb}
use Rattle.script.specs.Model.{Action, Branch, permute, shuffle, turn, LawfulAction, Onward}
use Rattle.protocol.specs.Machine.{Protocol, Mixing, Trace, action_at, target}
use Rattle.protocol.specs.States.{Row, total_of, mixed}
use Rattle.protocol.specs.Tree.{Node, Event, mixed_node, events_below}
use Rattle.rows.specs.declared.row.Row as code
use Rattle.rows.specs.Views.{rows_view, Put}
use Rattle.sheet.specs.declared.states.CheckedScript.{CheckedScript}
use Rattle.sheet.specs.Products.{total, leads}
use Rattle.sheet.specs.Sheets.{script}
use Rattle.tree.specs.declared.fault.TreeFault.{TreeFault}
use Rattle.tree.specs.Walks.{node_at, Arrived, Reached, Entered, Held, Made, Below}
use Rattle.tree.proofs.Arriving.{acts, arrived_next, held, put_fits, target_leads, target_onward}
use Rattle.tree.proofs.Growing.{below_mixed}
use Rattle.tree.proofs.Turning.{turn_facts}

module _ (s : CheckedScript) (line : ℕ) (rows : List Row) (a : Arrived s line rows) (next : ℕ) where
  pub permute_onward : (images : List ℕ) → permute images next ≡ (script s).action line → Onward (script s).lines line next
  permute_onward images e = (subst (LawfulAction (script s).cards (script s).lines line) (sym e) (acts s line rows a)).1

  pub shuffle_onward : (draws : ℕ) → shuffle draws next ≡ (script s).action line → Onward (script s).lines line next
  shuffle_onward draws e = (subst (LawfulAction (script s).cards (script s).lines line) (sym e) (acts s line rows a)).1.1

  pub turn_onward : (places : List ℕ) (branches : List Branch) (marks : List ℕ) → turn places branches ≡ (script s).action line → target marks branches ≡ Some next → Onward (script s).lines line next
  turn_onward places branches marks e f =
      target_onward (script s).lines line (length places) marks branches next (turn_facts s line rows a places branches e).onward f

  module _ (answer : Option ℕ) (state : List Row) (before after : List code.Row) (put : Put answer state before after) (long : length after ≡ length before) where
    entered_put : leads ((script s).action line) next ≡ true → Onward (script s).lines line next
        → ((m b : ℕ) → answer ≡ Some m → b < 8 → total_of b (rows_view (take m after)) ≤ total ((script s).action line) * total_of b rows)
        → Entered s next answer after
    entered_put e o h =
        record {
          standing = record { lawful = a.standing.lawful; from_two = (let f = a.standing.from_two in let g = o.later in omega arith); there = o.there };
          fits = put_fits answer state before after put long;
          arrived = λ m f. arrived_next s line rows a next e o (rows_view (take m after)) (λ b k. h m b f k);
        }

    pub entered_permute : (images : List ℕ) → permute images next ≡ (script s).action line
        → ((m b : ℕ) → answer ≡ Some m → b < 8 → total_of b (rows_view (take m after)) ≡ total_of b rows) → Entered s next answer after
    entered_permute images e h =
        entered_put (subst (λ (x : Action). leads x next ≡ true) e (eq-eqb next next refl)) (permute_onward images e)
        (λ m b f k. subst (λ (x : Action). total_of b (rows_view (take m after)) ≤ total x * total_of b rows) e (let t = h m b f k in omega arith))

    pub entered_shuffle : (draws : ℕ) → shuffle draws next ≡ (script s).action line
        → ((m b : ℕ) → answer ≡ Some m → b < 8 → total_of b (rows_view (take m after)) ≡ draws * total_of b rows) → Entered s next answer after
    entered_shuffle draws e h =
        entered_put (subst (λ (x : Action). leads x next ≡ true) e (eq-eqb next next refl)) (shuffle_onward draws e)
        (λ m b f k. subst (λ (x : Action). total_of b (rows_view (take m after)) ≤ total x * total_of b rows) e (let t = h m b f k in omega arith))

  pub branch_reached : (places : List ℕ) (branches : List Branch) (marks : List ℕ) → turn places branches ≡ (script s).action line → target marks branches ≡ Some next → Reached s next rows
  branch_reached places branches marks e f =
      let o = turn_onward places branches marks e f in
      record {
        standing = record { lawful = a.standing.lawful; from_two = (let k = a.standing.from_two in let g = o.later in omega arith); there = o.there };
        arrives = λ some h. arrived_next s line rows a next (subst (λ (x : Action). leads x next ≡ true) e (target_leads marks branches next f)) o some
            (λ b k. subst (λ (x : Action). total_of b some ≤ total x * total_of b rows) e (let t = h b in omega arith));
      }

pub entered_child : (s : CheckedScript) (line : ℕ) (rows : List Row) → Reached s line rows → (answer : Option ℕ) (state : List Row) (before after : List code.Row) → Put answer state before after → length after ≡ length before
    → ((m b : ℕ) → answer ≡ Some m → total_of b (rows_view (take m after)) ≤ total_of b rows) → Entered s line answer after
entered_child s line rows r answer state before after put long h =
    record {
      standing = r.standing;
      fits = put_fits answer state before after put long;
      arrived = λ m f. r.arrives (rows_view (take m after)) (λ b. h m b f);
    }

module _ {V : Type 0} (visits : Protocol → Node → V → V → Type 0) (p : Protocol) (answer : Option ℕ) (room after : List code.Row) (long : length after ≡ length room) (marks : List ℕ) (count : ℕ) (before last : V) (made : Result ℕ TreeFault) where
  pub made_put : (line : ℕ) (state : List Row) → Put answer state room after
      → ((rows : List Row) → Held answer rows after → Made visits p line rows (length after) marks count before last made) → Made visits p line state (length room) marks count before last made
  made_put line state put enter =
      subst (λ (r : ℕ). Made visits p line state r marks count before last made) long (enter state (held answer state room after put long))

  pub below_put : (line : ℕ) (rows : List Row) (a : Action) (m : Mixing) (cards : ℕ) → a ≡ action_at p line → line < m.next
      → ((grow : Node → List Event) (number need : ℕ) (trace : Trace) → events_below grow p (node_at number line need rows trace) a ≡ grow (mixed_node p m (node_at number line need rows trace)))
      → cards ≡ p.script.cards → Put answer (mixed cards m rows) room after
      → ((state : List Row) → Held answer state after → Made visits p m.next state (length after) marks count before last made) → Below visits p line rows (length room) marks count before last made
  below_put line rows a m cards e l h c put enter =
      let state : List Row = mixed p.script.cards m rows in
      let k : Put answer state room after = subst (λ (n : ℕ). Put answer (mixed n m rows) room after) c put in
      below_mixed visits p line rows (length room) marks count before a m last made e l h (made_put m.next state k enter)
