-- How a thing is kept, and what an act makes of it.
use Rattle.std.specs.Prelude.{◌≡◌, ℕ, map, Result, Ok, Err}
use Rattle.rb_model.specs.declared.act.Reply.{Reply as Answered}
use Rattle.rb_model.specs.declared.value.Id.{Id}
use Rattle.rb_model.specs.Acts.{Act}
use Rattle.rb_model.specs.Doing.{said, slot, state_of}
use Rattle.rb_model.specs.Things.{Thing, Object, Pairs, Mutex, Thread}
use Rattle.rb_model.specs.Private.{Item}
use Rattle.local_heap.specs.Contents.{listed}
use Rattle.rb_shared.specs.Asking.{ArePairs}
use Rattle.rb_shared.specs.Step.{act_reply, behind_act}
use Rattle.thing_store.specs.declared.kept.Kept.{Kept}
use Rattle.thing_store.specs.declared.kept.Kept.TheVariants as kept
use Rattle.thing_store.specs.declared.table.Key.{Key}

-- the thing that is kept
abbrev pub thing_of : Kept → Thing
thing_of (kept.Object class fields) = Object class (map slot fields.items)
thing_of (kept.List list) = listed list
thing_of (kept.Pairs pairs) = Pairs pairs
thing_of (kept.Mutex owner) = Mutex owner
thing_of (kept.Thread state) = Thread (state_of state)

-- the id that a key stands for
abbrev pub id_of : Key → Id
id_of key = record { thread = key.thread; serial = key.serial }

-- the thing with its id
abbrev pub item_of : Key × Kept → Item
item_of row = record { id = id_of row.0; thing = thing_of row.1 }

-- a thing that can be kept as it is: no key of a hash stands twice
abbrev pub HasKeysOnce : Thing → Type 0
HasKeysOnce (Pairs pairs) = ArePairs pairs
HasKeysOnce thing = Unit {0}

-- What an act of thread t answered, and what the thing then is. Where memory was refused the thing is what it was.
abbrev pub Acts : {E : Type 0} → ℕ → Thing → Act → Result Answered E → Thing → Type 0
Acts t thing act (Ok reply) now = (said reply ≡ act_reply t thing act) × (now ≡ behind_act t thing act)
Acts t thing act (Err refused) now = now ≡ thing
