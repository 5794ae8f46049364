use Rattle.std.proofs.Common.{◌≡◌, map, drop}
use Rattle.rb_model.specs.Doing.{pair}
use Rattle.rb_machine.specs.Laws.{has_bad_key}
use Rattle.rb_walk.proofs.gathering.has_bad_key.Given as goal

abbrev pub invariant-pairs : goal.invariant-pairs
invariant-pairs l = has_bad_key (map pair (drop l.pair-index l.pairs)) ≡ has_bad_key (map pair l.pairs)
