-- Any list of calls on a table opened empty on a certified protocol.
use Rattle.std.proofs.Common.{◌≡◌, ℕ, ◌*◌, ◌<◌, ◌≤◌, Bool, true, false, cond, ltb, ◌⊎◌, List, [], ◌∷◌, sym, refl, ap, ◌∙◌, inl, inr, lit≤}
use mathlib.Core.Path.{fun_ext}
use Rattle.protocol.specs.Machine.{Protocol, LawfulProtocol, inputs, value, laid, sum_below, one_if}
use Rattle.protocol.specs.Tree.{Node, nodes, root, Certificate, Certified, class, is_wrong}
use Rattle.protocol.specs.Table.{empty, running, empty_table, lay, Answer, began, stands_at, refuse, replied, lay_own, lay_other, lay_same, ask_turn, ask_finish, ask_where, Planned, step_drawn, asked, fillings, finishes}
use Rattle.protocol.specs.Promises.{Undistinguished, UndistinguishedBeforeFinish}
use Rattle.protocol.proofs.Sums.{cond_lt}
use Rattle.protocol.proofs.Weighed.{weighed_start, weighed_const}
use Rattle.protocol.proofs.Reached.{below_eight, all_both}
use Rattle.protocol.proofs.Scan.{certify_built, Faultless, faultless_nodes}
use Rattle.protocol.proofs.Divided.{OneTotal}
use Rattle.protocol.proofs.Classes.{one_class}
use Rattle.protocol.proofs.Certified.{RightAt, right_from}
use Rattle.protocol.proofs.Trees.{Tree, tree_top, tree_weaker, whole_tree, even_nodes}
use Rattle.protocol.proofs.Worth.{After, then_worth, worth, count_worth, worth_own}
use Rattle.protocol.proofs.Alike.{sits, Sound, Fair, fair_next, node_alike}

abbrev Fit : Protocol → ℕ → ℕ → Node → Type 0
Fit p b d u = OneTotal p b d u × RightAt p u

fit_sound : (p : Protocol) → LawfulProtocol p → (b d : ℕ) → b < 8 → d < 8 → (k : ℕ) (u : Node) → Tree p (Fit p b d) k u → Sound p b d u
fit_sound p ok b d few few' k u t =
    record {
      even = even_nodes p ok b d few few' k u (tree_weaker p (Fit p b d) (OneTotal p b d) (λ v h. h.0) k u t);
      right = (tree_top p (Fit p b d) k u t).1;
    }

module _ (p : Protocol) (ok : LawfulProtocol p) (n : ℕ) (room : 65535 ≤ n) (b d : ℕ) (hb : b < inputs p) (hd : d < inputs p) (tree : Tree p (Fit p b d) p.script.lines (root p)) where
  few : b < 8
  few = below_eight p ok b hb

  few' : d < 8
  few' = below_eight p ok d hd

  -- the two inputs laid
  laid_alike : (x y : ℕ) (plan : List Planned) (after : After) → Fair p b d after → (bytes : List ℕ) → worth n p x y plan after (sits running 2 0 (laid p b)) bytes ≡ worth n p x y plan after (sits running 2 0 (laid p d)) bytes
  laid_alike x y plan after fair bytes =
      sym (weighed_start p b (λ a. worth n p x y plan after (sits running 2 0 a) bytes) ok hb few)
      ∙ node_alike p ok n room b d hb hd few few' x y (Fit p b d) (fit_sound p ok b d few few') plan after fair p.script.lines (root p) tree 0 bytes
      ∙ weighed_start p d (λ a. worth n p x y plan after (sits running 2 0 a) bytes) ok hd few'

  granted_lay : (x : ℕ) (bytes : List ℕ) → x < inputs p → replied p empty_table bytes (lay x) ≡ record { answer = began 2; table = sits running 2 0 (laid p x); bytes = bytes }
  granted_lay x bytes h =
      cond_lt x (inputs p) (record { answer = began 2; table = sits running 2 0 (laid p x); bytes = bytes }) (refuse empty_table bytes 26) h

  abbrev fair_began : (after : After) → Fair p b d after → Fair p b d (λ answers. after (began 2 ∷ answers))
  fair_began after fair = fair_next p b d after (began 2) (λ answers. refl) fair

  same_lay : (cs : List Planned) (after : After) (bytes : List ℕ) (x : ℕ) → (((answer : Answer) → ((answers : List Answer) → finishes (answer ∷ answers) ≡ finishes answers) → worth n p b d cs (λ answers. after (answer ∷ answers)) empty_table bytes ≡ worth n p d b cs (λ answers. after (answer ∷ answers)) empty_table bytes)) → then_worth (worth n p b d cs) after (replied p empty_table bytes (lay x)) ≡ then_worth (worth n p d b cs) after (replied p empty_table bytes (lay x))
  same_lay cs after bytes x ih = go (ltb x (inputs p))
    where
      go : (z : Bool) → then_worth (worth n p b d cs) after (cond z (record { answer = began 2; table = sits running 2 0 (laid p x); bytes = bytes }) (refuse empty_table bytes 26)) ≡ then_worth (worth n p d b cs) after (cond z (record { answer = began 2; table = sits running 2 0 (laid p x); bytes = bytes }) (refuse empty_table bytes 26))
      go true = worth_own n p b d d b cs (λ answers. after (began 2 ∷ answers)) (sits running 2 0 (laid p x)) bytes tt
      go false = ih (refuse empty_table bytes 26).answer (λ answers. refl)

  empty_alike : (plan : List Planned) (after : After) → Fair p b d after → (bytes : List ℕ) → worth n p b d plan after empty_table bytes ≡ worth n p d b plan after empty_table bytes
  empty_alike [] after fair bytes = refl
  empty_alike (step_drawn ∷ cs) after fair bytes =
      let answer : Answer = (refuse empty_table bytes 24).answer in
      ap (sum_below n) (fun_ext (λ i. empty_alike cs (λ answers. after (answer ∷ answers)) (fair_next p b d after answer (λ answers. refl) fair) bytes))
  empty_alike (asked lay_own ∷ cs) after fair bytes =
      ap (then_worth (worth n p b d cs) after) (granted_lay b bytes hb)
      ∙ laid_alike b d cs (λ answers. after (began 2 ∷ answers)) (fair_began after fair) bytes
      ∙ worth_own n p b d d b cs (λ answers. after (began 2 ∷ answers)) (sits running 2 0 (laid p d)) bytes tt
      ∙ ap (then_worth (worth n p d b cs) after) (sym (granted_lay d bytes hd))
  empty_alike (asked lay_other ∷ cs) after fair bytes =
      ap (then_worth (worth n p b d cs) after) (granted_lay d bytes hd)
      ∙ sym (laid_alike b d cs (λ answers. after (began 2 ∷ answers)) (fair_began after fair) bytes)
      ∙ worth_own n p b d d b cs (λ answers. after (began 2 ∷ answers)) (sits running 2 0 (laid p b)) bytes tt
      ∙ ap (then_worth (worth n p d b cs) after) (sym (granted_lay b bytes hb))
  empty_alike (asked (lay_same x) ∷ cs) after fair bytes =
      same_lay cs after bytes x (λ answer h. empty_alike cs (λ answers. after (answer ∷ answers)) (fair_next p b d after answer h fair) bytes)
  empty_alike (asked ask_turn ∷ cs) after fair bytes =
      let answer : Answer = (refuse empty_table bytes 24).answer in
      empty_alike cs (λ answers. after (answer ∷ answers)) (fair_next p b d after answer (λ answers. refl) fair) bytes
  empty_alike (asked ask_finish ∷ cs) after fair bytes =
      let answer : Answer = (refuse empty_table bytes 24).answer in
      empty_alike cs (λ answers. after (answer ∷ answers)) (fair_next p b d after answer (λ answers. refl) fair) bytes
  empty_alike (asked ask_where ∷ cs) after fair bytes =
      let answer : Answer = stands_at (record { phase = empty; line = 0; written = 0 }) in
      empty_alike cs (λ answers. after (answer ∷ answers)) (fair_next p b d after answer (λ answers. refl) fair) bytes

-- a test of the answers and the record does not look at the cards
test_fair : (p : Protocol) (b d : ℕ) (test : List Answer → List ℕ → Bool) → ((value p b ≡ value p d) ⊎ ((answers : List Answer) (final : List ℕ) → finishes answers ≡ true → test answers final ≡ false)) → Fair p b d (λ answers t final. one_if (test answers final))
test_fair p b d test h =
    record {
      balanced = λ u s answers phase w bytes.
          weighed_const p.script.cards b (one_if (test answers bytes)) u.rows
          ∙ ap (λ v. v * one_if (test answers bytes)) s.even
          ∙ sym (weighed_const p.script.cards d (one_if (test answers bytes)) u.rows);
      by_value =
          elim h [
            | inl e ↦ inl e
            | inr z ↦ inr (λ answers t bytes e. ap one_if (z answers bytes e))
          ];
    }

fillings_alike : (p : Protocol) → LawfulProtocol p → (bench : ℕ) (c : Certificate) → Certified p bench c → (b d : ℕ) → b < inputs p → d < inputs p → class c b ≡ class c d → (bytes : List ℕ) (plan : List Planned) (test : List Answer → List ℕ → Bool) → ((value p b ≡ value p d) ⊎ ((answers : List Answer) (final : List ℕ) → finishes answers ≡ true → test answers final ≡ false)) → fillings p b d bytes plan test ≡ fillings p d b bytes plan test
unfolding fillings
fillings_alike p ok bench c cert b d hb hd e bytes plan test h =
    count_worth 65536 p b d plan test empty_table bytes
    ∙ empty_alike p ok 65536 (lit≤ tt) b d hb hd tree plan (λ answers t final. one_if (test answers final)) (test_fair p b d test h) bytes
    ∙ sym (count_worth 65536 p d b plan test empty_table bytes)
  where
    faultless : Faultless p
    faultless = faultless_nodes p bench c cert.built cert.faultless

    tree : Tree p (Fit p b d) p.script.lines (root p)
    tree =
        whole_tree p ok (Fit p b d) (certify_built p bench c cert.built).made_all
        (all_both (OneTotal p b d) (λ u. is_wrong p u ≡ false) (Fit p b d) (λ u o r. (o, right_from p u r)) (nodes p)
        (one_class p ok bench c cert.built b d hb hd e) faultless.right)

pub undistinguished : (p : Protocol) → LawfulProtocol p → (bench : ℕ) (c : Certificate) → Certified p bench c → Undistinguished p c
undistinguished p ok bench c cert b d hb hd e f bytes plan test =
    fillings_alike p ok bench c cert b d hb hd e bytes plan test (inl f)

pub undistinguished_before_finish : (p : Protocol) → LawfulProtocol p → (bench : ℕ) (c : Certificate) → Certified p bench c → UndistinguishedBeforeFinish p c
undistinguished_before_finish p ok bench c cert b d hb hd e bytes plan test h =
    fillings_alike p ok bench c cert b d hb hd e bytes plan test (inr h)
