use Rattle.std.proofs.Common.{take}
use Rattle.shape_tree.specs.Indexes.{IsIndex}
use Rattle.shape_tree.proofs.index.Index.of.Given as goal

abbrev pub invariant-loop-slot : goal.invariant-loop-slot
invariant-loop-slot l = IsIndex (take l.slot-index l.slots) l.index
