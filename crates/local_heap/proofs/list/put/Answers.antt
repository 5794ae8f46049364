use Rattle.std.proofs.Common.{◌≡◌, length, refl, rules, to_z, of_z, w64}
use Rattle.array_strategy.specs.Elements.{place_of}
use Rattle.local_heap.proofs.Writes.{does_put}
use Rattle.local_heap.proofs.list.put.Goals as goal

pub returns : goal.returns
returns c =
    let z : to_z w64 (of_z w64 c.args.index) ≡ c.args.index = search rules in
    does_put c.args.list.now c.put.new.self c.args.value c.put.result c.answered.result (place_of c.args.index (length c.args.list.now.items))
    (rw z at c.put.ensures.done) (rw z at c.put.ensures.too_small) (rw z at c.put.ensures.too_long) (rw z at c.put.ensures.memory)
    c.put.ensures.kept c.answered.ensures c.args.index refl
