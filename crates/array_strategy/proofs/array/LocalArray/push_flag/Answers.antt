use Rattle.std.proofs.Common.{length}
use Rattle.std.specs.Prelude.{◌<◌}
use Rattle.array_strategy.specs.Elements.{IsRaw}
use Rattle.array_strategy.proofs.Places.{with_room}
use Rattle.array_strategy.proofs.array.LocalArray.push_flag.Goals as goal

pub returns-clause-refused : goal.returns-clause-refused
returns-clause-refused g c =
    with_room (IsRaw g.V.Item.int c.args.self.now) (length c.args.self.now.items < 16777216) c.push_flag.result (rw c.self.view_is at c.push_flag.ensures.refused)
