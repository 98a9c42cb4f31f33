-- One byte by a test, and what comes after it.
use Rattle.std.proofs.Common.{◌≡◌, ℕ, suc, ◌≤◌, Bool, true, false, List, [], ◌∷◌, length, get_or, Some, refl, arith}
use Rattle.format.specs.Form.{Form, ends, byte, wrong}
use Rattle.format.specs.Taking.{Next, Faulty}
use Rattle.format.specs.declared.cursor.Cursor.{Cursor}
use Rattle.heads.specs.declared.fault.SheetFault.TheVariants.{Byte}

pub byte_right : (test : ℕ → Bool) (next : ℕ → Form) (old new : Cursor) (b : ℕ) → test b ≡ true → Next old b new
    → wrong old.at (byte test next) old.rest.now ≡ wrong new.at (next b) new.rest.now
byte_right test next old new b t n =
    let at : new.at ≡ suc old.at = omega (arith, n.at) in
    rw (n.bytes, t, at)

pub byte_wrong : (test : ℕ → Bool) (next : ℕ → Form) (from : ℕ) (bytes : List ℕ)
    → (1 ≤ length bytes → test (get_or bytes 0 0) ≡ false) → wrong from (byte test next) bytes ≡ Some from
byte_wrong test next from [] f = refl
byte_wrong test next from (b ∷ bs) f = rw (f (omega arith))

pub not_ended : (from : ℕ) (bytes : List ℕ) (line : ℕ) → 1 ≤ length bytes → Faulty ends from bytes line (Byte line from)
not_ended from [] line l = absurd (omega arith)
not_ended from (b ∷ bs) line l = record { index = from; names = refl; first = refl }
