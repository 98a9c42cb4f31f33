-- Which answer check gives.
use Rattle.std.specs.Prelude.{ℕ, zero, suc, ◌+◌, ◌-◌, ◌*◌, Bool, not, ◌&&◌, ◌||◌, List, [], ◌∷◌, drop, Option, ◌==◌, nat_lt, slice_index}
use Rattle.cards.specs.Lists.{member}
use Rattle.heads.specs.declared.head.Output.{Output}
use Rattle.heads.specs.declared.head.Output.TheVariants.{Committed, Open}
use Rattle.script.specs.Faults.{Fault}
use Rattle.heads.specs.Faults.{sheet_fault}
use Rattle.heads.specs.declared.head.Head.{Head}
use Rattle.format.specs.Form.{Form, wrong}
use Rattle.format.specs.Kinds.{head_form, layout_form, form_at}
use Rattle.sheet.specs.First.{or_else, first_of, first, given, mapped}
use Rattle.sheet.specs.Lines.{left, frame, bad_length, line_count}
use Rattle.sheet.specs.Scripts.{head, action}
use Rattle.sheet.specs.Products.{shuffles, greatest, limit}

-- 8: the length byte of a line
abbrev pub length_fault : List ℕ → ℕ → Option Fault
length_fault sheet line = given (bad_length line (left sheet line)) (sheet_fault 8 line 0)

-- 9: fewer than three lines
abbrev pub few_fault : List ℕ → Option Fault
few_fault sheet = given (nat_lt (line_count sheet) 3) (sheet_fault 9 (line_count sheet) 0)

-- 10: a byte of a line's frame is missing, too many or against its rule
abbrev pub byte_fault : ℕ → Form → List ℕ → Option Fault
byte_fault line form bytes = mapped (λ index. sheet_fault 10 line index) (wrong 0 form bytes)

-- the least code of k players that is not in the layout
abbrev pub missing_code : ℕ → List ℕ → Option ℕ
missing_code k laid = first (2 * k) (λ i. given (not (member (16 + i) laid)) (16 + i))

-- 14: a player's code is missing, which is tested after the frame of line 1
abbrev pub code_fault : ℕ → List ℕ → Option Fault
code_fault k laid = mapped (λ code. sheet_fault 14 1 code) (missing_code k laid)

abbrev pub layout_fault : Head → List ℕ → Option Fault
layout_fault h bytes = or_else (byte_fault 1 (layout_form h) bytes) (code_fault h.players (drop 1 bytes))

-- what is refused of the frame at a line, of a script with this head and so many lines
abbrev pub frame_fault : Head → ℕ → ℕ → List ℕ → Option Fault
frame_fault h lines zero bytes = byte_fault 0 head_form bytes
frame_fault h lines (suc zero) bytes = layout_fault h bytes
frame_fault h lines (suc (suc line)) bytes = byte_fault (suc (suc line)) (form_at h lines (suc (suc line))) bytes

abbrev pub line_fault : List ℕ → ℕ → Option Fault
line_fault sheet line = frame_fault (head sheet) (line_count sheet) line (frame sheet line)

abbrev pub is_result : ℕ → Bool
is_result kind = kind == 0x30 || kind == 0x31

abbrev pub result_kind : Output → ℕ
result_kind Committed = 0x30
result_kind Open = 0x31

abbrev pub kind_at : List ℕ → ℕ → ℕ
kind_at sheet line = slice_index (frame sheet line) 0

-- the line is a result of another kind than the head's output asks for
abbrev pub differs : List ℕ → ℕ → Bool
differs sheet line = is_result (kind_at sheet line) && not (kind_at sheet line == result_kind (head sheet).output)

-- 17: the kind of a result differs from the head's output
abbrev pub result_fault : List ℕ → ℕ → Option Fault
result_fault sheet line = given (differs sheet line) (sheet_fault 17 line 0)

-- 18: the last line is no result
abbrev pub last_fault : List ℕ → Option Fault
last_fault sheet = given (not (is_result (kind_at sheet (line_count sheet - 1)))) (sheet_fault 18 (line_count sheet - 1) 0)

-- 19: at a shuffle line, a product of totals along a path exceeds the limit
abbrev pub product_fault : List ℕ → ℕ → Option Fault
product_fault sheet line = given (shuffles (action sheet line) && nat_lt limit (greatest (action sheet) line)) (sheet_fault 19 line 0)

-- The first refusal of the lengths of all lines, the number of lines or a frame.
abbrev pub form_fault : List ℕ → Option Fault
form_fault sheet =
    first_of (first 65 (length_fault sheet) ∷ few_fault sheet ∷ first (line_count sheet) (line_fault sheet) ∷ [])

-- The first refusal, or none: the lengths of all lines, the number of lines, the frames line by line, the kinds of the
-- results, the last line, the products.
abbrev pub verdict : List ℕ → Option Fault
verdict sheet =
    first_of (first 65 (length_fault sheet)
    ∷ few_fault sheet
    ∷ first (line_count sheet) (line_fault sheet)
    ∷ first (line_count sheet) (result_fault sheet)
    ∷ last_fault sheet
    ∷ first (line_count sheet) (product_fault sheet)
    ∷ [])
