use Rattle.std.proofs.Common.{ap}
use Rattle.heap_core.specs.Opening.{laid_in}
use Rattle.heap_core.proofs.heap.opening_row.Goals as goal

pub returns : goal.returns
returns c = record { laid = ap laid_in (c.in_ok-row.ensures.items_if_clones_equal (λ y e. e)) }
