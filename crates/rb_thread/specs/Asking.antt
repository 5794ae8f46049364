-- Words on calls and answers.
use Rattle.std.specs.Prelude.{◌≡◌, ◌≤◌, ℕ, Bool, true, false, List, [], length, Option, Some, None, Vec, vec_capacity}
use Rattle.std.specs.declared.alloc.Global.{Global}
use Rattle.rb_model.specs.declared.value.Ref.{Ref}
use Rattle.rb_model.specs.declared.act.Reply.TheVariants as reply
use Rattle.rb_model.specs.declared.call.End.{End as HeldEnd}
use Rattle.rb_model.specs.declared.call.Call.{Call as Held}
use Rattle.rb_model.specs.declared.call.Call.TheVariants as held
use Rattle.rb_model.specs.declared.call.Answer.{Answer as Printed}
use Rattle.rb_model.specs.declared.call.Answer.TheVariants as printed
use Rattle.rb_model.specs.Acts.{Act, Join}
use Rattle.rb_shared.specs.declared.answer.Answer.{Answer}
use Rattle.rb_model.specs.Moving.{refs_in_all}
use Rattle.publish_barrier.specs.Sorts.{all_noted_same}
use Rattle.rb_thread.specs.declared.job.Job.{Job}
use Rattle.rb_shared.specs.declared.answer.Answer.TheVariants as answer

abbrev pub is_join : Act → Bool
is_join Join = true
is_join act = false

-- whether the end of a thread is told
abbrev pub tells_end : Answer → Bool
tells_end (answer.Done (reply.Ended how)) = true
tells_end a = false

-- the number and the thing of the thread that was started
abbrev pub number_in : Answer → Option (ℕ × Ref)
number_in (answer.Done (reply.Started number thread)) = Some (number, thread)
number_in a = None

-- the end of a thread that is told
abbrev pub ended_in : Answer → Option HeldEnd
ended_in (answer.Done (reply.Ended how)) = Some how
ended_in a = None

-- what a print is answered, which is never that the shared heap is full
abbrev pub printed_as : Answer → Printed
printed_as (answer.Done r) = printed.Done
printed_as (answer.Full used wanted) = printed.Memory
printed_as answer.SinkFailed = printed.SinkFailed
printed_as answer.Memory = printed.Memory

-- a list with nothing in it has room for a reference for each value that a call gives a thread
abbrev pub HasRoomFor : Held → Vec Ref Global → Type 0
HasRoomFor (held.Start id body values) room = (room.items ≡ []) × (length values.items ≤ vec_capacity room)
HasRoomFor call room = Unit {0}

-- the job that a call hands over to the thread that it starts, with those of these references that its values mention
abbrev pub IsJobIn : List Ref → Held → ℕ → Option Job → Type 0
IsJobIn refs (held.Start id body values) number (Some job) =
    (job.number ≡ number) × (job.body ≡ body) × (job.values ≡ values) × (job.refs.items ≡ all_noted_same refs (refs_in_all values.items))
IsJobIn refs (held.Start id body values) number None = ⊥
IsJobIn refs call number o = o ≡ None

-- whether a call was done
abbrev pub is_done : Answer → Bool
is_done (answer.Done r) = true
is_done a = false
