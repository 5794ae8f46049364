use Rattle.std.proofs.Common.{◌≡◌, map, take}
use Rattle.array_strategy.proofs.growth.narrowed.Given as goal

abbrev pub invariant-items : goal.invariant-items
invariant-items g l = map g.V.Item.int l.ints.items ≡ take l.item-index l.items
