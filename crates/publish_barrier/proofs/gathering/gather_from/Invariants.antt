use Rattle.std.proofs.Common.{◌≡◌, ◌+◌, length}
use Rattle.rb_model.specs.Moving.{items_of}
use Rattle.rb_shared.specs.Lists.{Each}
use Rattle.publish_barrier.specs.Leaving.{Rest, named, serials, without}
use Rattle.publish_barrier.specs.Moves.{IsMet, MayAllMove}
use Rattle.publish_barrier.proofs.Leaving.{weight}
use Rattle.publish_barrier.proofs.gathering.gather_from.Given as goal

abbrev pub invariant-loop-thing : goal.invariant-loop-thing
invariant-loop-thing g l = record {
  rest : Rest l.heap (named l.fn.first.items) (items_of l.gathering.moved) (named l.gathering.waiting.items);
  seen : l.gathering.seen.keys ≡ serials (items_of l.gathering.moved);
  may : MayAllMove l.heap l.known.refs l.gathering.moved l.gathering.waiting.items;
  met : Each (IsMet l.known.refs l.gathering.moved l.gathering.waiting.items) l.fn.first.items;
}

abbrev pub decreases-loop-thing : goal.decreases-loop-thing
decreases-loop-thing g l = weight (without l.heap (items_of l.gathering.moved)).things + length (named l.gathering.waiting.items)
