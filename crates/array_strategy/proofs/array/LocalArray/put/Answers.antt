use Rattle.std.proofs.Common.{◌≡◌, Some, w64}
use Rattle.std.proofs.lemmas.Int.{to_z-of_z}
use Rattle.array_strategy.specs.Elements.{place_of}
use Rattle.array_strategy.proofs.Puts.{put_done-within}
use Rattle.array_strategy.proofs.array.LocalArray.put.Goals as goal

pub returns-then-place-len-clause-done : goal.returns-then-place-len-clause-done
returns-then-place-len-clause-done g c =
    let found : Some c.in-Some.place ≡ place_of c.args.index c.len-len.result = rw (to_z-of_z w64 c.args.index c.ranges.index) at c.in-Some.ensures in
    put_done-within g.V.Item.integer c.args.self.now _ _ c.args.index c.len-len.result c.in-Some.place c.args.item c.args.fill c.self.view_is c.len-len.ensures.exact found c.if-place-len.true c.in_ok-replace.ensures.done
