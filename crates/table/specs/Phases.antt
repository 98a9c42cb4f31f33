-- The phases of a table.
use Rattle.protocol.specs.Table as model
use Rattle.table.specs.declared.phase.Phase.{Phase}
use Rattle.table.specs.declared.phase.Phase.TheVariants.{Empty, Running, Ended}

abbrev pub phase_of : Phase → model.Phase
phase_of Empty = model.empty
phase_of Running = model.running
phase_of Ended = model.ended
