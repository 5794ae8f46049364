use Rattle.std.proofs.Common.{◌≡◌, rules, to_z, of_z, w64}
use Rattle.local_heap.proofs.Listing.{deleted}
use Rattle.local_heap.proofs.list.delete_at.Goals as goal

pub returns : goal.returns
returns c =
    let z : to_z w64 (of_z w64 c.args.index) ≡ c.args.index = search rules in
    deleted c.args.list.now.items c.args.index c.delete_at.result c.or_nil.result c.delete_at.new.self.items (rw z at c.delete_at.ensures.taken) c.or_nil.ensures (rw z at c.delete_at.ensures.rest)
