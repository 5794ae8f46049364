use Rattle.std.proofs.Common.{◌≡◌, ◌++◌, take}
use Rattle.rb_model.specs.Moving.{items_of}
use Rattle.thing_store.proofs.store.ThingStore.take_in.Given as goal

-- what came so far lies behind the others
abbrev pub invariant-moved : goal.invariant-moved
invariant-moved l = l.self ≡ l.initial.self ++ items_of (take l.number l.moved)
