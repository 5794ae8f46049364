use Rattle.std.proofs.Common.{◌≡◌, true, take}
use Rattle.array_strategy.specs.Elements.{all_flags}
use Rattle.array_strategy.proofs.flags.are_flags.Given as goal

abbrev pub invariant-items : goal.invariant-items
invariant-items g l = all_flags g.V.Item.flag_of (take l.item-index l.items) ≡ true
