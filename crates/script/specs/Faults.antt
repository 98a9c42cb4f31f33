-- What a refusal names: its number, its layer, a line and a place. A place that is not given is 0.
use Rattle.std.specs.Prelude.{ℕ}
use Rattle.script.specs.declared.fault.Layer.{Layer}
use Rattle.script.specs.declared.fault.Layer.TheVariants.{Sheet, Tree, Table}

-- the number of a layer, as its definition in the code shows it
abbrev pub layer_number : Layer → ℕ
layer_number Sheet = 0
layer_number Tree = 1
layer_number Table = 2

pub record Fault : Type 0 where
  pub number : ℕ
  pub layer : Layer
  pub line : ℕ
  pub place : ℕ
