use Rattle.rb_walk.specs.Dispatch.{AreKnown}
use Rattle.rb_walk.proofs.dispatch.rows_of.Given as goal

abbrev pub invariant-rows : goal.invariant-rows
invariant-rows l = AreKnown l.script l.rows.items
