use Rattle.shape_tree.proofs.Indexed.{Leads, steps}
use Rattle.shape_tree.proofs.index.Index.find.Given as goal

abbrev pub invariant-loop-at : goal.invariant-loop-at
invariant-loop-at l = Leads l.slots l.fn.name.0 l.places l.at

abbrev pub decreases-loop-at : goal.decreases-loop-at
decreases-loop-at l = steps l.at
