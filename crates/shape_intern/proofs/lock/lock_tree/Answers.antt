use Rattle.std.proofs.Common.{ap, ◌∙◌}
use Rattle.heap_core.specs.Places.{tree_lock}
use Rattle.heap_core.specs.View.{Holder, Locked, busy_at}
use Rattle.heap_core.proofs.Doings.{busy_set}
use Rattle.heap_core.specs.Heaps.{holder}
use Rattle.shape_intern.proofs.lock.lock_tree.Goals as goal

pub returns : goal.returns
returns g c = record {
  of = c.lock.ensures.of;
  had = c.lock.ensures.had;
  has = ap (λ (k : Holder). busy_at tree_lock k.doing) c.lock.ensures.had.1 ∙ busy_set tree_lock Locked (holder c.args.pass.now).doing;
}
