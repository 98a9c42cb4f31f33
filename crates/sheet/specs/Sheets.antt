-- The bytes of a sheet and of a checked script, and the script that a checked script is.
use Rattle.std.specs.Prelude.{ℕ, List, vec_items}
use Rattle.script.specs.Model.{Script}
use Rattle.sheet.specs.declared.states.Sheet.{Sheet}
use Rattle.sheet.specs.declared.states.CheckedScript.{CheckedScript}
use Rattle.sheet.specs.Scripts.{script_of}

abbrev pub sheet_bytes : Sheet → List ℕ
sheet_bytes s = vec_items s.bytes

abbrev pub script_bytes : CheckedScript → List ℕ
script_bytes s = sheet_bytes s.sheet

abbrev pub script : CheckedScript → Script
script s = script_of (script_bytes s)
