-- The lines of a sheet, counted from 0. Each is a length byte and then a frame of so many bytes.
use Rattle.std.specs.Prelude.{ℕ, zero, suc, Bool, true, false, ◌||◌, List, [], ◌∷◌, length, take, drop, ◌==◌, nat_le, nat_lt}
use Rattle.sheet.specs.First.{first, given, value_or}

abbrev pub first_frame : List ℕ → List ℕ
first_frame [] = []
first_frame (n ∷ bytes) = take n bytes

abbrev pub after_first : List ℕ → List ℕ
after_first [] = []
after_first (n ∷ bytes) = drop n bytes

-- what is left of the sheet after so many lines
unfoldable pub left : List ℕ → ℕ → List ℕ
left sheet zero = sheet
left sheet (suc line) = after_first (left sheet line)

-- the frame of a line
abbrev pub frame : List ℕ → ℕ → List ℕ
frame sheet line = first_frame (left sheet line)

-- The length byte of a line is 0, above 128 or past the end, or begins a 65th line.
abbrev pub bad_length : ℕ → List ℕ → Bool
bad_length line [] = false
bad_length line (n ∷ bytes) = (n == 0 || nat_lt 128 n) || (nat_lt (length bytes) n || nat_le 64 line)

abbrev pub no_more : List ℕ → Bool
no_more [] = true
no_more (n ∷ bytes) = false

-- how many lines there are: the first number after which nothing is left
abbrev pub line_count : List ℕ → ℕ
line_count sheet = value_or 0 (first 65 (λ line. given (no_more (left sheet line)) line))
