use Rattle.std.proofs.Common.{◌≡◌, ◌++◌, map}
use Rattle.std.specs.Vec.Iter.{into_iter_items}
use Rattle.rb_model.specs.Values.{plain}
use Rattle.rb_model.specs.Doing.{pair}
use Rattle.rb_walk.specs.Gathering.{parts_in}
use Rattle.rb_walk.proofs.gathering.parts_of.Given as goal

abbrev pub invariant-pairs : goal.invariant-pairs
invariant-pairs l = record {
  can : goal.iterator-pairs.can_next l.key-iterator;
  ends : goal.iterator-pairs.is_finite l.key-iterator;
  parts : map plain l.values.items ++ parts_in l.purpose (map pair (into_iter_items l.key-iterator)) ≡ parts_in l.purpose (map pair l.fn.pairs.items);
}
