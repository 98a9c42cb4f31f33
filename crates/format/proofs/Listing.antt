-- A list of bytes by a rule, read byte by byte.
use Rattle.std.proofs.Common.{◌≡◌, ℕ, suc, ◌+◌, ◌-◌, ◌<◌, ◌≤◌, Bool, true, false, List, [], ◌∷◌, ◌++◌, length, get_or, take, drop, sym, ap, ◌∙◌, arith}
use Rattle.std.proofs.lemmas.List.{take_more, drop_more, length-drop}
use Rattle.format.specs.Form.{Form, byte, wrong, listed}
use Rattle.format.specs.Taking.{Next, NoNext, Broken}
use Rattle.format.specs.declared.cursor.Cursor.{Cursor}
use Rattle.heads.specs.declared.fault.SheetFault.{SheetFault}
use Rattle.format.proofs.Bytes.{byte_wrong}

module _ (rule : List ℕ → ℕ → Bool) (count : ℕ) (first : Cursor) where
  -- the first i bytes keep the rule, and `now` is what is left after them
  pub record Reached (i : ℕ) (now : Cursor) : Type 0 where
    pub within : i ≤ length first.rest.now
    pub line : now.line ≡ first.line
    pub at : now.at ≡ first.at + i
    pub left : now.rest.now ≡ drop i first.rest.now
    pub same : (next : List ℕ → Form)
        → wrong first.at (listed count rule [] next) first.rest.now
        ≡ wrong now.at (listed (count - i) rule (take i first.rest.now) next) now.rest.now

  step : (i : ℕ) → i < count → (before : List ℕ) (next : List ℕ → Form)
      → listed (count - i) rule before next ≡ byte (rule before) (λ b. listed (count - (i + 1)) rule (before ++ b ∷ []) next)
  step i h before next = let e : count - i ≡ suc (count - (i + 1)) = omega arith in rw e

  pub reached_more : (i : ℕ) (now after : Cursor) (b : ℕ) → i < count → Next now b after
      → rule (take i first.rest.now) b ≡ true → Reached i now → Reached (i + 1) after
  reached_more i now after b h n t r =
      let p : drop i first.rest.now ≡ b ∷ after.rest.now = sym r.left ∙ n.bytes in
      let l : i < length first.rest.now = omega (arith, length-drop i first.rest.now, ap length p) in
      let q : get_or first.rest.now i 0 ∷ drop (i + 1) first.rest.now ≡ b ∷ after.rest.now = sym (drop_more first.rest.now i 0 l) ∙ p in
      let here : get_or first.rest.now i 0 ≡ b = cc in
      let at : after.at ≡ suc now.at = omega (arith, n.at) in
      record {
        within = omega arith;
        line = n.line ∙ r.line;
        at = omega (arith, n.at, r.at);
        left = cc;
        same = λ next.
            r.same next
            ∙ rw (step i h, n.bytes, t, take_more first.rest.now i 0 l, here, at);
      }

  pub broken_next : (i : ℕ) (now : Cursor) (e : SheetFault) → i < count
      → NoNext (λ b. rule (take i first.rest.now) b ≡ false) now e → Reached i now
      → Broken (listed count rule []) first e
  broken_next i now e h n r =
      record {
        index = now.at;
        names = rw (n.fault, r.line);
        first = λ next. r.same next ∙ (rw (step i h) (byte_wrong (rule (take i first.rest.now)) _ now.at now.rest.now n.against));
      }
