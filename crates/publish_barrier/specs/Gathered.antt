-- What a look at a reference does to what moves and what waits.
use Rattle.std.specs.Prelude.{List, ◌∷◌, Option}
use Rattle.rb_model.specs.declared.value.Id.{Id}
use Rattle.rb_model.specs.declared.value.Ref.{Ref}
use Rattle.rb_model.specs.Moving.{items_of}
use Rattle.rb_model.specs.Private.{Private}
use Rattle.rb_model.specs.Things.{Thing}
use Rattle.publish_barrier.specs.declared.gathering.Gathering.{Gathering}
use Rattle.publish_barrier.specs.Leaving.{Looked, named, without}
use Rattle.publish_barrier.specs.Moves.{GoesOn, MayAllMove}

-- the store without what moves so far
abbrev pub store_left : Private → Gathering → Private
store_left h g = without h (items_of g.moved)

-- before and behind a look at the reference to a thing
abbrev pub LooksAt : Option Thing → Id → Gathering → Gathering → Type 0
LooksAt thing id old new = Looked thing id (items_of old.moved) (items_of new.moved) (named old.waiting.items) (named new.waiting.items)

-- a reference that waited before the others may be looked at
abbrev pub MayLookAt : Private → List Ref → Ref → Gathering → Type 0
MayLookAt h refs r g = MayAllMove h refs g.moved (r ∷ g.waiting.items)

-- it was looked at, and gathering goes on
abbrev pub GoesBehind : Private → List Ref → Ref → Gathering → Gathering → Type 0
GoesBehind h refs r old new = GoesOn h refs old.moved (r ∷ old.waiting.items) new.moved new.waiting.items
