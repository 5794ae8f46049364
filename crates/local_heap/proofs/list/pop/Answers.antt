use Rattle.local_heap.proofs.Listing.{popped}
use Rattle.local_heap.proofs.list.pop.Goals as goal

pub returns : goal.returns
returns c = popped c.args.list.now.items c.pop.result c.or_nil.result c.pop.new.self.items c.pop.ensures.taken c.or_nil.ensures c.pop.ensures.rest
