-- What each refusal of the tree names.
use Rattle.script.specs.Faults.{Fault}
use Rattle.protocol.specs.Tree.{tree_fault}
use Rattle.tree.specs.declared.fault.TreeFault.{TreeFault}
use Rattle.tree.specs.declared.fault.TreeFault.TheVariants.{NoBranch, Bench, Nodes}

abbrev pub shown : TreeFault → Fault
shown (NoBranch line node) = tree_fault 20 line node
shown (Bench line node) = tree_fault 21 line node
shown (Nodes line) = tree_fault 22 line 512
