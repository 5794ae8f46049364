use Rattle.std.proofs.Common.{◌≡◌, refl, rules, to_z, of_z, w64}
use Rattle.local_heap.specs.Contents.{listed}
use Rattle.local_heap.proofs.cells.Cell.put_immediate.Goals as goal

pub returns-in-List-clause-does : goal.returns-in-List-clause-does
returns-in-List-clause-does c =
    let z : to_z w64 (of_z w64 c.args.index) ≡ c.args.index = search rules in
    rw c.in-List.is (listed c.put_immediate.new.list, refl, (rw z at c.put_immediate.ensures.does))
