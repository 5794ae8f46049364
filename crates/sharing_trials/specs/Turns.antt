-- What the tests know of a pass: enough to make calls on the global variables.
use Rattle.std.specs.Prelude.{◌++◌, ◌≡◌, true, false, []}
use Rattle.rb_model.specs.declared.act.Act.TheVariants as act
use Rattle.rb_model.specs.declared.act.Reply.{Reply}
use Rattle.rb_model.specs.declared.call.Call.{Call as Held}
use Rattle.rb_model.specs.declared.call.Call.TheVariants as held
use Rattle.rb_model.specs.declared.value.Ref.{Ref}
use Rattle.rb_model.specs.Doing.{said}
use Rattle.rb_model.specs.Log.{asked, is_end, is_sure}
use Rattle.rb_model.specs.Moving.{refs_in}
use Rattle.rb_model.specs.Started.{started, started_by}
use Rattle.rb_shared.specs.declared.answer.Answer.{Answer}
use Rattle.rb_shared.specs.declared.answer.Answer.TheVariants as answer
use Rattle.rb_shared.specs.Lists.{Has}
use Rattle.rb_shared.specs.View.{View, to_globals, started_number}

-- the thread goes on, and knows the global variables
abbrev pub IsReady : View → Type 0
IsReady v = (v.ended ≡ false) × Has v.known to_globals

-- a call on the global variables that hands no reference over, or a print
abbrev pub IsPlain : Held → Type 0
IsPlain (held.On r (act.GetField name)) = r ≡ to_globals
IsPlain (held.On r (act.SetField name v)) = (r ≡ to_globals) × (refs_in v ≡ [])
IsPlain (held.Print bytes) = Unit {0}
IsPlain call = ⊥

-- the same thread, which was told no more and has started no more
abbrev pub IsAsBefore : View → View → Type 0
IsAsBefore v w = (w.thread ≡ v.thread) × (w.told ≡ v.told) × (started w.log.entries ≡ started v.log.entries)

-- each reference that was known is known
abbrev pub StillKnows : View → View → Type 0
StillKnows v w = (x : Ref) → Has v.known x → Has w.known x

-- the threads that it has started, with the one that a reply says
abbrev pub HasStarted : View → Held → Reply → View → Type 0
HasStarted v call r w = started w.log.entries ≡ started v.log.entries ++ started_by (asked call) (said r)

-- what an answer leaves of a view, as far as the tests look
abbrev pub Leaves : View → Held → Answer → View → Type 0
Leaves v call (answer.Done r) w =
    (w.ended ≡ is_end (asked call)) × (w.unsplit ≡ started_number (said r)) × StillKnows v w × (w.thread ≡ v.thread) × (w.told ≡ v.told)
    × HasStarted v call r w
Leaves v call a w = (w.ended ≡ v.ended) × StillKnows v w × (is_sure (asked call) ≡ true → ⊥) × IsAsBefore v w
