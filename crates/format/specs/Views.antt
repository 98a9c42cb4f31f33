-- What a frame of the code holds, as parts.
use Rattle.std.specs.Prelude.{◌≡◌, ℕ, ◌+◌, ◌*◌, ◌≤◌, List, take, drop, None, slice_index}
use Rattle.format.specs.Form.{Form, wrong}
use Rattle.format.specs.Kinds.{form_at, piled_form}
use Rattle.format.specs.Taking.{Passed}
use Rattle.format.specs.Parts.{Parts, parts, permute, cut, explicit, turn, committed, opened}
use Rattle.heads.specs.declared.head.Head.{Head}
use Rattle.format.specs.declared.cursor.Cursor.{Cursor}
use Rattle.format.specs.declared.frame.Piled.{Piled}
use Rattle.format.specs.declared.frame.Frame.{Frame}
use Rattle.format.specs.declared.frame.Frame.TheVariants.{Permute, Cut, Explicit, Turn, Committed, Open}

abbrev pub view : Frame → Parts
view (Permute places) = permute places.now
view (Cut piles slots places) = cut piles slots places.now
view (Explicit piles slots places entries) = explicit piles slots places.now entries.now
view (Turn places branches) = turn places.now branches.now
view (Committed left right) = committed left right
view (Open value) = opened value

-- A frame was read in full: the bytes after its kind keep the form, and it has these parts.
pub record Read (form : Form) (start : Cursor) (shape : List ℕ → Parts) (f : Frame) : Type 0 where
  pub fits : wrong start.at form start.rest.now ≡ None
  pub shows : view f ≡ shape start.rest.now

-- m, q and the places of a shuffle were read.
pub record PiledRead (n : ℕ) (old : Cursor) (p : Piled) (new : Cursor) : Type 0 where
  pub piles : p.piles ≡ slice_index old.rest.now 0
  pub slots : p.slots ≡ slice_index old.rest.now 1
  pub some_slots : 2 ≤ p.slots
  pub inside : p.slots * p.piles ≤ n
  pub listed : p.places.now ≡ take (p.slots * p.piles) (drop 2 old.rest.now)
  pub left : new.rest.now ≡ drop (p.slots * p.piles) (drop 2 old.rest.now)
  pub at : new.at ≡ old.at + 2 + p.slots * p.piles
  pub passed : Passed (piled_form n) old p.slots new

-- The whole frame of a line from 2 on was read.
pub record FrameRead (h : Head) (lines line : ℕ) (bytes : List ℕ) (f : Frame) : Type 0 where
  pub fits : wrong 0 (form_at h lines line) bytes ≡ None
  pub shows : view f ≡ parts bytes
