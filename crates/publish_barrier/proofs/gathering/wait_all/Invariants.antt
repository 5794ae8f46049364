use Rattle.std.proofs.Common.{◌≡◌, ◌++◌, take}
use Rattle.rb_model.specs.Moving.{refs_in_all}
use Rattle.publish_barrier.proofs.gathering.wait_all.Given as goal

abbrev pub invariant-values : goal.invariant-values
invariant-values l = l.waiting.items ≡ l.fn.waiting.items ++ refs_in_all (take l.value-index l.values)
