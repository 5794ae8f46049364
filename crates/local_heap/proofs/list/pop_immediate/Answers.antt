use Rattle.rb_model.specs.Acts.{Pop}
use Rattle.local_heap.specs.Contents.{listed}
use Rattle.local_heap.proofs.AtOnce.{takes}
use Rattle.local_heap.proofs.Listing.{rest_popped}
use Rattle.local_heap.proofs.list.pop_immediate.Goals as goal

pub returns : goal.returns
returns c = record {
  told = c.immediate-told.ensures;
  does = takes c.immediate-told.result (listed c.args.list.now) (listed c.pop.new.self) Pop c.in_default.not-Other (rest_popped c.args.list.now.items c.pop.new.self.items c.pop.ensures.rest);
}
