use Rattle.std.proofs.Common.{◌≡◌, rules, to_z, of_z, w64}
use Rattle.local_heap.proofs.Objects.{always_err}
use Rattle.local_heap.proofs.Listing.{reads, read_wants}
use Rattle.local_heap.proofs.list.at.Goals as goal

pub returns-clause-value : goal.returns-clause-value
returns-clause-value c =
    let z : to_z w64 (of_z w64 c.args.index) ≡ c.args.index = search rules in
    reads c.args.list.now.items c.args.index _ c.or_nil.result (rw z at c.in_ok-at.ensures.found) c.or_nil.ensures

pub returns-in_err-at-clause-refused : goal.returns-in_err-at-clause-refused
returns-in_err-at-clause-refused c =
    let z : to_z w64 (of_z w64 c.args.index) ≡ c.args.index = search rules in
    always_err c.from_residual.result (read_wants c.args.list.now.items c.args.index (rw z at c.in_err-at.ensures.counted))
