use Rattle.std.proofs.Common.{◌≡◌, map, take}
use Rattle.array_strategy.proofs.flags.narrowed_flags.Given as goal

abbrev pub invariant-items : goal.invariant-items
invariant-items g l = map g.V.Item.flag l.flags.items ≡ take l.item-index l.items
