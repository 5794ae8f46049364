use Rattle.std.proofs.Common.{sym, subst}
use Rattle.std.specs.List.{AllByRecursion}
use Rattle.rb_walk.specs.Dispatch.{IsKnown}
use Rattle.rb_walk.proofs.Rows.{all_pushed}
use Rattle.rb_walk.proofs.dispatch.row_of.Goals as goal

pub founds-preserved : goal.founds-preserved
founds-preserved c = subst (AllByRecursion (IsKnown c.args.script.now)) (sym c.in_ok-push.ensures.items) (all_pushed _ _ _ c.founds.invariant c.in-Some-known_of.ensures)
