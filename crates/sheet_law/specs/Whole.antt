-- A whole script as a designer writes it, its bytes, and the rules that it keeps.
use Rattle.std.specs.Prelude.{◌≡◌, ℕ, suc, ◌-◌, ◌<◌, ◌≤◌, true, List, [], ◌∷◌, map, length, None, slice_index, slice_index_or}
use Rattle.std.specs.List.{flat_map}
use Rattle.heads.specs.declared.head.Head.{Head}
use Rattle.writing.specs.Writing.{Line, opened, head_bytes, layout_bytes, line_bytes, KeepsHead, KeepsLayout, KeepsLine}
use Rattle.sheet.specs.Laws.{SmallProducts}
use Rattle.sheet.specs.Scripts.{script_of}
use Rattle.sheet.specs.Verdicts.{verdict, is_result, result_kind}

-- the head, the codes, and the lines from 2 on
pub record Writing : Type 0 where
  pub head : Head
  pub codes : List ℕ
  pub lines : List Line

abbrev pub frames : Writing → List (List ℕ)
frames w = head_bytes w.head ∷ layout_bytes w.codes ∷ map line_bytes w.lines

-- a length byte and the frame
abbrev pub framed : List ℕ → List ℕ
framed f = length f ∷ f

abbrev pub writing_bytes : Writing → List ℕ
writing_bytes w = flat_map framed (frames w)

-- the kind at a line
abbrev pub kind_of : Writing → ℕ → ℕ
kind_of w line = slice_index (slice_index_or (frames w) line []) 0

pub record KeepsRules (w : Writing) : Type 0 where
  pub headed : KeepsHead w.head
  pub laid : KeepsLayout w.head w.codes
  pub some : 1 ≤ length w.lines
  pub few : length w.lines ≤ 62
  pub short : (line : ℕ) → line < length (frames w) → length (slice_index_or (frames w) line []) ≤ 128
  pub each : (i : ℕ) → i < length w.lines → KeepsLine w.head (length (frames w)) (suc (suc i)) (slice_index_or w.lines i (opened 0))
  pub agree : (line : ℕ) → line < length (frames w) → is_result (kind_of w line) ≡ true → kind_of w line ≡ result_kind w.head.output
  pub last : is_result (kind_of w (length (frames w) - 1)) ≡ true
  pub small : SmallProducts (script_of (writing_bytes w))

-- A sheet passes exactly when its bytes are the writing of a script that keeps every rule.
pub record SheetLaw : Type 0 where
  pub passes : (w : Writing) → KeepsRules w → verdict (writing_bytes w) ≡ None
  pub written : (sheet : List ℕ) → verdict sheet ≡ None → (w : Writing) × ((writing_bytes w ≡ sheet) × KeepsRules w)
