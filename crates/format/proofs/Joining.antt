-- How the parts of a frame join up: as far as the bytes have been read, the frame's fault is that of the rest.
use Rattle.std.proofs.Common.{◌≡◌, ℕ, suc, ◌+◌, ◌-◌, ◌<◌, Bool, true, false, List, length, None, refl, ap, ◌∙◌, arith}
use Rattle.format.specs.Form.{Form, byte, wrong}
use Rattle.format.specs.Taking.{Next, NoNext, Passed, Broken, Faulty, FaultyFrom}
use Rattle.format.specs.declared.cursor.Cursor.{Cursor}
use Rattle.heads.specs.declared.fault.SheetFault.{SheetFault}
use Rattle.format.proofs.Bytes.{byte_right, byte_wrong}

-- a byte by a test, and then a part that may look at it
module _ {X : Type 0} (test : ℕ → Bool) (part : ℕ → (X → Form) → Form) {old now : Cursor} {b : ℕ} (t : test b ≡ true) (n : Next old b now) where
  pub byte_passed : {x : X} {new : Cursor} → Passed (part b) now x new → Passed (λ next. byte test (λ b. part b next)) old x new
  byte_passed p =
      record {
        line = p.line ∙ n.line;
        level = omega (arith, p.level, n.at, ap length n.bytes);
        onward = λ next. byte_right test (λ b. part b next) old now b t n ∙ p.onward next;
      }

-- A frame of the form that begins at `start` has been read as far as `now`, and `left` is the form of what is left.
pub record Come (form : Form) (start : Cursor) (left : Form) (now : Cursor) : Type 0 where
  pub line : now.line ≡ start.line
  pub same : wrong start.at form start.rest.now ≡ wrong now.at left now.rest.now

pub come_none : (form : Form) (start : Cursor) → Come form start form start
come_none form start = record { line = refl; same = refl }

module _ {form : Form} {start now : Cursor} where
  pub come_as : {left left' : Form} → left ≡ left' → Come form start left now → Come form start left' now
  come_as e come = record { line = come.line; same = come.same ∙ ap (λ f. wrong now.at f now.rest.now) e }

  pub come_part : {X : Type 0} (part : (X → Form) → Form) (next : X → Form) {x : X} {after : Cursor}
      → Passed part now x after → Come form start (part next) now → Come form start (next x) after
  come_part part next p come =
      record { line = p.line ∙ come.line; same = come.same ∙ p.onward next }

  pub come_byte : {test : ℕ → Bool} {next : ℕ → Form} {b : ℕ} {after : Cursor}
      → test b ≡ true → Next now b after → Come form start (byte test next) now → Come form start (next b) after
  come_byte t n come =
      record { line = n.line ∙ come.line; same = come.same ∙ byte_right _ _ _ _ _ t n }

  pub broken_here : {X : Type 0} (part : (X → Form) → Form) (next : X → Form) {e : SheetFault}
      → Broken part now e → Come form start (part next) now → FaultyFrom form start e
  broken_here part next p come =
      record { index = p.index; names = rw (← come.line) p.names; first = come.same ∙ p.first next }

  pub no_byte_here : {test : ℕ → Bool} {next : ℕ → Form} {e : SheetFault}
      → NoNext (λ b. test b ≡ false) now e → Come form start (byte test next) now → FaultyFrom form start e
  no_byte_here n come =
      record {
        index = now.at;
        names = rw (n.fault, come.line);
        first = come.same ∙ byte_wrong _ _ now.at now.rest.now n.against;
      }

  pub faulty_here : {left : Form} {e : SheetFault} → FaultyFrom left now e → Come form start left now → FaultyFrom form start e
  faulty_here p come =
      record { index = p.index; names = rw (← come.line) p.names; first = come.same ∙ p.first }

  pub fits_here : {left : Form} → wrong now.at left now.rest.now ≡ None → Come form start left now → wrong start.at form start.rest.now ≡ None
  fits_here e come = come.same ∙ e

-- a form for so many of the same, of which i have been read
module _ (forms : ℕ → Form) (count i : ℕ) where
  pub one_more : i < count → forms (count - i) ≡ forms (suc (count - (i + 1)))
  one_more h = let e : count - i ≡ suc (count - (i + 1)) = omega arith in rw e

-- what is a fault of a frame's bytes where none of them has been read
pub whole_faulty : (start : Cursor) {form : Form} {line : ℕ} {bytes : List ℕ} {e : SheetFault}
    → start.line ≡ line → start.at ≡ 0 → start.rest.now ≡ bytes → FaultyFrom form start e → Faulty form 0 bytes line e
whole_faulty start i j k p =
    record { index = p.index; names = rw (← i) p.names; first = rw (← j, ← k) p.first }
