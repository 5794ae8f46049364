-- Acts, replies, makes and things of the code, as the definitions know them.
use Rattle.std.specs.Prelude.{[], map, replicate, Option, None}
use Rattle.std.specs.Option.{option_map}
use Rattle.rb_model.specs.declared.act.Act.{Act as Asked}
use Rattle.rb_model.specs.declared.act.Act.TheVariants as asked
use Rattle.rb_model.specs.declared.act.Reply.{Reply as Answered}
use Rattle.rb_model.specs.declared.act.Reply.TheVariants as answered
use Rattle.rb_model.specs.declared.act.Make.{Make}
use Rattle.rb_model.specs.declared.act.Make.TheVariants as make
use Rattle.rb_model.specs.declared.thing.Field.{Field as Told}
use Rattle.rb_model.specs.declared.thing.Thing.{Thing as Copied}
use Rattle.rb_model.specs.declared.thing.Thing.TheVariants as copied
use Rattle.rb_model.specs.declared.thing.ThreadState.{ThreadState as Running}
use Rattle.rb_model.specs.declared.value.Sort.{Sort}
use Rattle.rb_model.specs.declared.value.Sort.TheVariants as sort
use Rattle.rb_model.specs.declared.value.Value.{Value as Held}
use Rattle.rb_model.specs.Values.{Value as Val, plain}
use Rattle.rb_model.specs.Acts.{Act, GetField, SetField, At, Put, Push, Unshift, Pop, Shift, DeleteAt, KGet, KHas, KPut, KDelete, Clear, Len, Copy, Join, Lock, Unlock, Reply}
use Rattle.rb_model.specs.Acts as reply
use Rattle.rb_model.specs.Ends.{over}
use Rattle.rb_model.specs.Immediates.{reference}
use Rattle.rb_model.specs.Things.{Thing, ThreadState, Field, Object, Elements, Pairs, Mutex, Thread, gathered}

-- what an act of the code is
abbrev pub doing : Asked → Act
doing (asked.GetField name) = GetField name
doing (asked.SetField name value) = SetField name (plain value)
doing (asked.At index) = At index
doing (asked.Put index value) = Put index (plain value)
doing (asked.Push value) = Push (plain value)
doing (asked.Unshift value) = Unshift (plain value)
doing asked.Pop = Pop
doing asked.Shift = Shift
doing (asked.DeleteAt index) = DeleteAt index
doing (asked.KGet key) = KGet (plain key)
doing (asked.KHas key) = KHas (plain key)
doing (asked.KPut key value) = KPut (plain key) (plain value)
doing (asked.KDelete key) = KDelete (plain key)
doing asked.Clear = Clear
doing asked.Len = Len
doing asked.Copy = Copy
doing asked.Join = Join
doing asked.Lock = Lock
doing asked.Unlock = Unlock

-- what a pair of the code is
abbrev pub pair : Held × Held → Val × Val
pair p = (plain p.0, plain p.1)

-- what a reply of the code is
abbrev pub said : Answered → Reply
said (answered.Value value) = reply.Value (plain value)
said (answered.Elements values) = reply.Elements (map plain values.items)
said (answered.Pairs pairs) = reply.Pairs (map pair pairs.items)
said answered.Done = reply.Done
said (answered.Started number thread) = reply.Started number (reference thread)
said (answered.Ended how) = reply.Ended (over how)
said (answered.Failed fault) = reply.Failed fault

-- the thing that is made
abbrev pub made : Make → Thing
made (make.Object class) = Object class []
made (make.Elements values) = Elements (map plain values.items)
made (make.Filled count value) = Elements (replicate count (plain value))
made (make.Pairs pairs) = Pairs (gathered (map pair pairs.items))
made make.Mutex = Mutex None

-- and what a reference to it says that it is
abbrev pub sort_of : Make → Sort
sort_of (make.Object class) = sort.Object class
sort_of (make.Elements values) = sort.List
sort_of (make.Filled count value) = sort.List
sort_of (make.Pairs pairs) = sort.Pairs
sort_of make.Mutex = sort.Mutex

-- what a field of the code is
abbrev pub slot : Told → Field
slot f = record { name = f.name; value = plain f.value; wide = f.wide }

-- what a thread of the code is
abbrev pub state_of : Running → ThreadState
state_of s = record { number = s.number; maker = s.maker; gathered = s.gathered; end = option_map over s.end }

-- what a thing of the code is
abbrev pub seen : Copied → Thing
seen (copied.Object class fields) = Object class (map slot fields.items)
seen (copied.Elements values) = Elements (map plain values.items)
seen (copied.Pairs pairs) = Pairs (map pair pairs.items)
seen (copied.Mutex owner) = Mutex owner
seen (copied.Thread state) = Thread (state_of state)
