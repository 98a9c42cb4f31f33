-- The root of the tree: its rows, and the walk from there on.
use Rattle.std.proofs.Common.{◌≡◌, ℕ, zero, suc, ◌^◌, ◌<◌, ◌≤◌, Bool, true, false, cond, ltb, List, [], length, take, replicate, Some, None, Option, Result, sym, refl, ap, ◌∙◌, subst, zero-add, arith}
use Rattle.cards.specs.Decks.{DeckMeaning}
use Rattle.cards.specs.Shuffles.{ShuffleMeaning}
use Rattle.heads.specs.declared.head.Head.{Head}
use Rattle.protocol.specs.Machine.{Protocol, inputs}
use Rattle.protocol.specs.States.{Row, total_of, start_state}
use Rattle.protocol.specs.Tree.{Node, events, subtree, bench_rows, scan, certify}
use Rattle.rows.specs.declared.row.Row as code
use Rattle.rows.specs.Views.{rows_view, Put, Lays}
use Rattle.sheet.specs.declared.states.CheckedScript.{CheckedScript}
use Rattle.sheet.specs.Laws.{SmallProducts}
use Rattle.sheet.specs.Products as products
use Rattle.sheet.specs.Scripts.{head}
use Rattle.sheet.specs.Sheets.{script, script_bytes}
use Rattle.sheet.specs.Passed.{not_some}
use Rattle.line_parts.proofs.Acting.{lawful}
use Rattle.sheet.proofs.Paths.{small_products}
use Rattle.tree.specs.declared.certificate.Certificate.{Certificate}
use Rattle.tree.specs.declared.fault.TreeFault.{TreeFault}
use Rattle.tree.specs.Certificates.{view, blank}
use Rattle.tree.specs.Walks.{playing, node_at, Standing, Entered, notes, Walked, faulted, Made}
use Rattle.tree.proofs.Arriving.{put_fits}
use Rattle.tree.proofs.Scanning.{left_by, walked_scan}

small_of : (s : CheckedScript) → SmallProducts (script s)
small_of s = small_products (script_bytes s) (not_some _ s.passes)

root_standing : (s : CheckedScript) → Standing s 2
root_standing s =
    let l = lawful s in
    record { lawful = l; from_two = omega arith; there = (let k = l.some_line in omega arith) }

-- how the rows of the root are laid
pub laid : (s : CheckedScript) (deck : DeckMeaning) (bank : ℕ → ShuffleMeaning) (h : Head) (codes : List ℕ) → h ≡ head (script_bytes s) → codes ≡ (script s).codes → Lays (playing s deck bank) h.players codes deck
laid s deck bank h codes e f =
    record {
      cards_are = sym (lawful s).laid ∙ ap length (sym f);
      players_are = ap (λ (x : Head). x.players) (sym e);
      codes_are = sym f;
      deck_is = refl;
    }

one_at_most : (t : Bool) → cond t 1 0 ≤ 1
one_at_most true = omega arith
one_at_most false = omega arith

pub entered_start : (s : CheckedScript) (answer : Option ℕ) (state : List Row) (before after : List code.Row) → Put answer state before after → length after ≡ length before → (players : ℕ)
    → ((m b : ℕ) → answer ≡ Some m → b < 8 → total_of b (rows_view (take m after)) ≡ cond (ltb b (2 ^ players)) 1 0) → Entered s 2 answer after
entered_start s answer state before after put long players h =
    record {
      standing = root_standing s;
      fits = put_fits answer state before after put long;
      arrived = λ m f.
          record {
            standing = root_standing s;
            small_products = small_of s;
            product = 1;
            path = products.start;
            bounded = λ b k. subst (λ (x : ℕ). x ≤ 1) (sym (h m b f k)) (one_at_most (ltb b (2 ^ players)));
          };
    }

blank_classes : (k : ℕ) → k ≤ 3 → take {A = ℕ} (2 ^ k) (replicate 8 0) ≡ replicate (2 ^ k) 0
blank_classes zero h = refl
blank_classes (suc zero) h = refl
blank_classes (suc (suc zero)) h = refl
blank_classes (suc (suc (suc zero))) h = refl
blank_classes (suc (suc (suc (suc k)))) h = absurd (omega arith)

-- the walk over all events, and the certificate that it leaves
pub root_walked : {V : Type 0} (visits : Protocol → Node → V → V → Type 0) (p : Protocol) (bench room : ℕ) (marks : List ℕ) (before after : V) (answer : Result ℕ TreeFault) → room ≡ bench_rows bench → marks ≡ []
    → Made visits p 2 (start_state p) room marks 0 before after answer → Walked (visits p) bench (events p) 0 before after (faulted answer)
unfolding events
root_walked visits p bench room marks before after answer r e made =
    subst (λ (n : ℕ). Walked (visits p) bench (subtree p.script.lines p (node_at 0 2 n (start_state p) [])) 0 before after (faulted answer)) (zero-add (length (start_state p)))
    (made bench p.script.lines 0 [] (omega arith) (zero-add room ∙ r) (sym e))

pub certified : (p : Protocol) (bench : ℕ) (before after : Certificate) (answer : Result ℕ TreeFault) → p.script.players ≤ 3 → before ≡ blank
    → Walked (notes p) bench (events p) 0 before after (faulted answer) → left_by (faulted answer) (view (inputs p) after) ≡ certify p bench
unfolding certify
certified p bench before after answer few e w =
    walked_scan p bench (events p) 0 before after (faulted answer) w (ap (λ (c : Certificate). c.nodes) e)
    ∙ ap (λ (c : Certificate). scan p bench (events p) (view (inputs p) c)) e
    ∙ ap (λ (cs : List ℕ). scan p bench (events p) (record { count = 0; wrong = None; leaking = None; classes = cs })) (blank_classes p.script.players few)
