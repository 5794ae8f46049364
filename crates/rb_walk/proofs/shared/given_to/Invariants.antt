use Rattle.std.proofs.Common.{◌≡◌, ◌++◌, map, drop}
use Rattle.rb_model.specs.Values.{plain}
use Rattle.rb_walk.specs.Shared.{own_self, value_at}
use Rattle.rb_walk.proofs.shared.given_to.Given as goal

abbrev pub invariant-slots : goal.invariant-slots
invariant-slots l = map plain l.values.items ++ map (value_at l.room) (drop l.slot-index l.slots) ≡ map plain l.args ++ (own_self l.fn.me ++ map (value_at l.room) l.slots)
