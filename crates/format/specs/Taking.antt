-- What the readers of a frame's parts promise. Each part holds for whatever form follows it, so that parts join up.
use Rattle.std.specs.Prelude.{◌≡◌, ℕ, ◌+◌, ◌≤◌, Bool, List, [], ◌∷◌, length, take, drop, slice_index, Some}
use Rattle.heads.specs.declared.fault.SheetFault.{SheetFault}
use Rattle.heads.specs.declared.fault.SheetFault.TheVariants.{Byte}
use Rattle.heads.specs.Faults.{shown, sheet_fault}
use Rattle.format.specs.Form.{Form, wrong, listed}
use Rattle.format.specs.declared.cursor.Cursor.{Cursor}

-- The next byte is b, and what is left after it.
pub record Next (old : Cursor) (b : ℕ) (new : Cursor) : Type 0 where
  pub line : new.line ≡ old.line
  pub at : new.at ≡ old.at + 1
  pub bytes : old.rest.now ≡ b ∷ new.rest.now

-- There is no next byte, or one that fails the test; the fault is this.
pub record NoNext (fails : ℕ → Type 0) (old : Cursor) (e : SheetFault) : Type 0 where
  pub fault : e ≡ Byte old.line old.at
  pub against : 1 ≤ length old.rest.now → fails (slice_index old.rest.now 0)

-- The bytes that are left begin with a part that keeps its rules: any fault of a frame that wants such a part here, and
-- then what `next` says of it, is a fault of the rest.
pub record Passed {X : Type 0} (part : (X → Form) → Form) (old : Cursor) (x : X) (new : Cursor) : Type 0 where
  pub line : new.line ≡ old.line
  pub level : new.at + length new.rest.now ≡ old.at + length old.rest.now
  pub onward : (next : X → Form) → wrong old.at (part next) old.rest.now ≡ wrong new.at (next x) new.rest.now

-- They do not: whatever is to come after the part, the frame's fault is this.
pub record Broken {X : Type 0} (part : (X → Form) → Form) (old : Cursor) (e : SheetFault) : Type 0 where
  pub index : ℕ
  pub names : shown e ≡ sheet_fault 10 old.line index
  pub first : (next : X → Form) → wrong old.at (part next) old.rest.now ≡ Some index

-- A list of so many bytes that keeps a rule, and the rest.
pub record Taken (rule : List ℕ → ℕ → Bool) (count : ℕ) (old : Cursor) (list : List ℕ) (new : Cursor) : Type 0 where
  pub within : count ≤ length old.rest.now
  pub front : list ≡ take count old.rest.now
  pub back : new.rest.now ≡ drop count old.rest.now
  pub at : new.at ≡ old.at + count
  pub passed : Passed (listed count rule []) old list new

-- The bytes from index `from` of a frame on have a fault, which is this.
pub record Faulty (form : Form) (from : ℕ) (bytes : List ℕ) (line : ℕ) (e : SheetFault) : Type 0 where
  pub index : ℕ
  pub names : shown e ≡ sheet_fault 10 line index
  pub first : wrong from form bytes ≡ Some index

-- The bytes that are left have a fault, which is this.
abbrev pub FaultyFrom : Form → Cursor → SheetFault → Type 0
FaultyFrom form old e = Faulty form old.at old.rest.now old.line e
