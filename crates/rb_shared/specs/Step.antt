-- The plain step: what a call of a thread makes of the shared things, and what it is answered.
use Rattle.std.specs.Prelude.{◌≡◌, ℕ, suc, ◌==◌, Bool, true, false, not, ◌||◌, ◌&&◌, if◌then◌else◌, List, [], ◌∷◌, ◌++◌, length, map, Option, Some, None, is_none}
use Rattle.std.specs.List.{flat_map}
use Rattle.rb_model.specs.declared.fault.Fault.TheVariants.{NoMethod, JoinSelf, ThreadLimit}
use Rattle.rb_model.specs.declared.value.Id.{Id}
use Rattle.rb_model.specs.Values.{Value, To}
use Rattle.rb_model.specs.Acts.{Act, Join, Lock, Reply, Done, handed}
use Rattle.rb_model.specs.Acts as reply
use Rattle.rb_model.specs.Ends.{End as Ending, told}
use Rattle.rb_model.specs.Things.{Thing, ThreadState, Mutex, Thread, becomes_by, gives_to, mentioned}
use Rattle.rb_model.specs.Private.{Item}
use Rattle.rb_model.specs.Log.{Call, On, Start, Gather, Print, End, Entry}
use Rattle.rb_model.specs.Started.{to_thread}
use Rattle.rb_shared.specs.Lists.{Each}
use Rattle.rb_shared.specs.Store.{Store, found, is_there, with_thing, threads, is_full}

-- ---- acts on one thing

-- a thread that ended, joined by thread t: its maker gathers it
abbrev pub gathered_by : ℕ → ThreadState → ThreadState
gathered_by t s = record s { gathered = s.gathered || s.maker == t }

abbrev pub joined_by : ℕ → ThreadState → Option Ending → ThreadState
joined_by t s None = s
joined_by t s (Some how) = if s.number == t then s else gathered_by t s

-- what a Join of thread t is answered: no thread waits for its own end, and any other, once the thread has ended, is told how
abbrev pub join_reply : ℕ → ThreadState → Option Ending → Reply
join_reply t s None = reply.Failed JoinSelf
join_reply t s (Some how) = if s.number == t then reply.Failed JoinSelf else reply.Ended how

-- what a thing becomes by an act of thread t
abbrev pub behind_act : ℕ → Thing → Act → Thing
behind_act t (Thread s) Join = Thread (joined_by t s s.end)
behind_act t thing act = becomes_by t thing act

-- what it answers
abbrev pub act_reply : ℕ → Thing → Act → Reply
act_reply t (Thread s) Join = join_reply t s s.end
act_reply t thing act = gives_to t thing act

-- whether the act has to wait: for the end of another thread, or for a mutex that another thread owns
abbrev pub waits_on : ℕ → Thing → Act → Bool
waits_on t (Thread s) Join = is_none s.end && not (s.number == t)
waits_on t (Mutex (Some owner)) Lock = not (owner == t)
waits_on t thing act = false

-- ---- where the thing may be missing, which no entry of a history meets

abbrev pub reply_of : ℕ → Option Thing → Act → Reply
reply_of t None act = reply.Failed NoMethod
reply_of t (Some thing) act = act_reply t thing act

abbrev pub is_waiting : ℕ → Option Thing → Act → Bool
is_waiting t None act = false
is_waiting t (Some thing) act = waits_on t thing act

abbrev pub with_act : ℕ → Store → Id → Option Thing → Act → Store
with_act t z id None act = z
with_act t z id (Some thing) act = with_thing z id (behind_act t thing act)

-- ---- threads begin and end

-- the thread that thread t starts: running, under the next number
abbrev pub new_thread : Store → ℕ → Id → Item
new_thread z t id = record { id = id; thing = Thread (record { number = suc (length (threads z)); maker = t; gathered = false; end = None }) }

-- what the end of thread t makes of a thing: the thread has its end, and a mutex that it owned is free
abbrev pub ended_thing : ℕ → Ending → Thing → Thing
ended_thing t how (Thread s) = Thread (if s.number == t then record s { end = Some how } else s)
ended_thing t how (Mutex (Some owner)) = Mutex (if owner == t then None else Some owner)
ended_thing t how thing = thing

abbrev pub ended_item : ℕ → Ending → Item → Item
ended_item t how x = record { id = x.id; thing = ended_thing t how x.thing }

-- ---- calls, over so many slots for threads

abbrev pub reply_to : ℕ → Store → ℕ → Call → Reply
reply_to slots z t (On thing act) = reply_of t (found z thing.id) act
reply_to slots z t (Start id body values) = if is_full slots z t then reply.Failed ThreadLimit else reply.Started (suc (length (threads z))) (to_thread id)
reply_to slots z t (Gather thread) = reply_of t (found z thread.id) Join
reply_to slots z t (Print bytes) = Done
reply_to slots z t (End how) = Done

abbrev pub store_behind : ℕ → Store → ℕ → Call → Store
store_behind slots z t (On thing act) = with_act t z thing.id (found z thing.id) act
store_behind slots z t (Start id body values) = if is_full slots z t then z else z ++ new_thread z t id ∷ []
store_behind slots z t (Gather thread) = with_act t z thread.id (found z thread.id) Join
store_behind slots z t (Print bytes) = z
store_behind slots z t (End how) = map (ended_item t how) z

abbrev pub waits : Store → ℕ → Call → Bool
waits z t (On thing act) = is_waiting t (found z thing.id) act
waits z t (Gather thread) = is_waiting t (found z thread.id) Join
waits z t call = false

-- ---- an entry

-- the ids that values mention
abbrev pub ids_in : Value → List Id
ids_in (To r) = r.id ∷ []
ids_in v = []

-- those that a call mentions; the id of a thread that is to start is none of them
abbrev pub ids_in_call : Call → List Id
ids_in_call (On thing act) = thing.id ∷ flat_map ids_in (handed act)
ids_in_call (Start id body values) = flat_map ids_in values
ids_in_call (Gather thread) = thread.id ∷ []
ids_in_call (Print bytes) = []
ids_in_call (End how) = flat_map ids_in (told how)

-- those that a call or the things that move with it mention
abbrev pub ids_in_entry : Entry → List Id
ids_in_entry e = ids_in_call e.call ++ flat_map (λ (x : Item). flat_map ids_in (mentioned x.thing)) e.moved

-- none of these is in the store, and none comes twice
abbrev pub AreNew : Store → List Item → Type 0
AreNew z [] = Unit {0}
AreNew z (x ∷ xs) = (is_there z x.id ≡ false) × AreNew (z ++ x ∷ []) xs

-- an entry of thread t takes one store to another: what moves with it joins, then its call need not wait, and its reply is that of the plain
-- step
pub record Steps (slots : ℕ) (z : Store) (t : ℕ) (e : Entry) (z' : Store) : Type 0 where
  pub joins : AreNew z e.moved
  pub known : Each (λ (id : Id). is_there (z ++ e.moved) id ≡ true) (ids_in_entry e)
  pub ready : waits (z ++ e.moved) t e.call ≡ false
  pub reply_is : e.reply ≡ reply_to slots (z ++ e.moved) t e.call
  pub store_is : z' ≡ store_behind slots (z ++ e.moved) t e.call
