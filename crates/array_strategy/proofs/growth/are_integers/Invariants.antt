use Rattle.std.proofs.Common.{◌≡◌, true, take}
use Rattle.array_strategy.specs.Elements.{all_integers}
use Rattle.array_strategy.proofs.growth.are_integers.Given as goal

abbrev pub invariant-items : goal.invariant-items
invariant-items g l = all_integers g.V.Item.integer (take l.item-index l.items) ≡ true
