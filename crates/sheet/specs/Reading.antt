-- How the code reads the lines of a sheet, one after another.
use Rattle.std.specs.Prelude.{◌≡◌, ℕ, ◌≤◌, Bool, ◌||◌, [], length, Option, MatchOption, ◌==◌, nat_le, nat_lt, slice_index}
use Rattle.sheet.specs.declared.lines.Line.{Line}
use Rattle.sheet.specs.declared.lines.Lines.{Lines}
use Rattle.sheet.specs.Lines.{first_frame, after_first}

-- the first line of what is left, and the lines after it
pub record Split (s : Lines) (x : Line) (t : Lines) : Type 0 where
  pub some : 1 ≤ length s.rest.now
  pub length : x.length ≡ slice_index s.rest.now 0
  pub frame : x.frame.now ≡ first_frame s.rest.now
  pub rest : t.rest.now ≡ after_first s.rest.now

abbrev pub Steps : Lines → Option Line → Lines → Type 0
Steps s r t = MatchOption r ((s.rest.now ≡ []) × (t.rest.now ≡ [])) (λ x. Split s x t)

-- the length byte is 0, above 128 or past the end, or begins a 65th line
abbrev pub bad_line : ℕ → Line → Bool
bad_line n l = (l.length == 0 || nat_lt 128 l.length) || (nat_lt (length l.frame.now) l.length || nat_le 64 n)
