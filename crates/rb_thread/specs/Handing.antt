-- What a thread hands over, and what it is told.
use Rattle.std.specs.Prelude.{◌≡◌, List, [], Some}
use Rattle.rb_model.specs.declared.value.Ref.{Ref}
use Rattle.rb_model.specs.declared.call.Served.{Served}
use Rattle.rb_model.specs.declared.call.Served.TheVariants as served
use Rattle.rb_model.specs.Acts.{Act}
use Rattle.rb_model.specs.Immediates.{reference}
use Rattle.rb_model.specs.Moving.{refs_in_reply}
use Rattle.rb_shared.specs.declared.answer.Answer.{Answer}
use Rattle.rb_shared.specs.declared.answer.Answer.TheVariants as answer
use Rattle.rb_shared.specs.Lists.{Has}
use Rattle.rb_shared.specs.Replies.{Serves}
use Rattle.publish_barrier.specs.Sorts.{noted_same}

-- a noted reference to the same thing, which the act is for
abbrev pub IsReceiver : List Ref → Ref → Act → Ref → Type 0
IsReceiver refs thing act r = (reference r ≡ reference thing) × Has refs r × Serves r.sort act

-- the act is for no noted reference to the same thing
abbrev pub HasNoReceiver : List Ref → Ref → Act → Type 0
HasNoReceiver refs thing act = (r : Ref) → noted_same refs thing ≡ Some r → Serves r.sort act → ⊥

-- ---- how an answer of the store is told to the thread

-- the sink's failure comes of prints alone
abbrev pub served_as : Answer → Served
served_as (answer.Done r) = served.Done r
served_as (answer.Full used wanted) = served.Full used wanted
served_as answer.SinkFailed = served.Memory
served_as answer.Memory = served.Memory

abbrev pub refs_told : Answer → List Ref
refs_told (answer.Done r) = refs_in_reply r
refs_told a = []
