-- What has left a private store.
use Rattle.std.specs.Prelude.{◌≡◌, ◌<◌, List, length, None}
use Rattle.rb_model.specs.declared.moved.MovedItem.{MovedItem}
use Rattle.rb_shared.specs.Asking.{IsNoneOf}
use Rattle.rb_shared.specs.Lists.{Each}
use Rattle.rb_model.specs.declared.value.Id.{Id}
use Rattle.rb_model.specs.Private.{Private, held}

-- the thread of a store made the thing of an id, which is private no more
pub record HasLeft (h : Private) (id : Id) : Type 0 where
  pub own : id.thread ≡ h.thread
  pub made : id.serial < length h.things
  pub gone : held h id ≡ None

-- what has left one store has left another
abbrev pub StayLeft : Private → Private → Type 0
StayLeft h k = (id : Id) → HasLeft h id → HasLeft k id

-- none of the things that move has left before
abbrev pub AreFirst : Private → List MovedItem → Type 0
AreFirst h ms = (ids : List Id) → Each (HasLeft h) ids → Each (λ (m : MovedItem). IsNoneOf ids m.id) ms
