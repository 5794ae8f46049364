use Rattle.local_heap.proofs.Listing.{shifted}
use Rattle.local_heap.proofs.list.shift.Goals as goal

pub returns : goal.returns
returns c = shifted c.args.list.now.items c.shift.result c.or_nil.result c.shift.new.self.items c.shift.ensures.taken c.or_nil.ensures c.shift.ensures.rest
