-- What is read at a node, and the certificate that notes it.
use Rattle.std.proofs.Common.{◌≡◌, ℕ, true, false, List, is_some, Some, None, Option, MatchOption, sym, refl, ap, ◌∙◌}
use Rattle.script.specs.Model.{Action}
use Rattle.protocol.specs.Machine.{is_result}
use Rattle.protocol.specs.Tree.{Certificate}
use Rattle.rows.specs.declared.outcome.Outcome.{Outcome}
use Rattle.rows.specs.declared.outcome.Outcome.TheVariants.{Committed, Opened}
use Rattle.rows.specs.declared.outcome.Wrong as code
use Rattle.rows.specs.Nodes.{action_of, wrong_view}

pub some_wrong : (o : Option code.Wrong) → is_some o ≡ is_some (wrong_view o)
some_wrong None = refl
some_wrong (Some w) = refl

result_of : (o : Outcome) (a : Action) → action_of o ≡ a → is_result a ≡ true
result_of (Committed left right) a e = sym (ap is_result e)
result_of (Opened value) a e = sym (ap is_result e)

-- a line gives a result exactly where there is one
pub is_outcome : (o : Option Outcome) (a : Action) → MatchOption o (is_result a ≡ false) (λ x. action_of x ≡ a) → is_some o ≡ is_result a
is_outcome None a h = sym h
is_outcome (Some x) a h = sym (result_of x a h)

pub same_certificate : (a b : Certificate) → a.count ≡ b.count → a.wrong ≡ b.wrong → a.leaking ≡ b.leaking → a.classes ≡ b.classes → a ≡ b
same_certificate a b c w l k =
    ap (λ (n : ℕ). record { count = n; wrong = a.wrong; leaking = a.leaking; classes = a.classes }) c
    ∙ ap (λ (o : Option ℕ). record { count = b.count; wrong = o; leaking = a.leaking; classes = a.classes }) w
    ∙ ap (λ (o : Option ℕ). record { count = b.count; wrong = b.wrong; leaking = o; classes = a.classes }) l
    ∙ ap (λ (cs : List ℕ). record { count = b.count; wrong = b.wrong; leaking = b.leaking; classes = cs }) k
