-- The definitions on small cases, by computation.
use Rattle.std.proofs.Common.{◌≡◌, ℕ, true, false, [], ◌∷◌, Option, Some, None, refl}
use Rattle.std.specs.Prelude.{pos}
use Rattle.rb_tree.specs.declared.span.NameId.{NameId}
use Rattle.rb_model.specs.declared.fault.Fault.TheVariants.{JoinSelf, LockOwned, UnlockForeign, ThreadLimit}
use Rattle.rb_model.specs.declared.value.Id.{Id}
use Rattle.rb_model.specs.declared.value.Sort.TheVariants as sort
use Rattle.rb_model.specs.Values.{Reference, Int, Nil}
use Rattle.rb_model.specs.Acts.{GetField, SetField, Join, Lock, Unlock, Done, Value, Started, Ended, Failed, Reply}
use Rattle.rb_model.specs.Ends.{End as Ending, Sink, Steps, Memory, closing, later}
use Rattle.rb_model.specs.Ends as ending
use Rattle.rb_model.specs.Things.{ThreadState, Mutex, Thread}
use Rattle.rb_model.specs.Log.{Call, On, Start, Gather, Print, End}
use Rattle.rb_model.specs.Started.{to_thread}
use Rattle.rb_shared.specs.Store.{Store, globals, generation_of, ungathered_count}
use Rattle.rb_shared.specs.Step.{reply_to, store_behind, waits}
use Rattle.rb_shared.specs.History.{Event, merge, prints}
use Rattle.rb_shared.specs.Placing.{history_of}

-- ---- mutexes

abbrev mutex : Reference
mutex = record { sort = sort.Mutex; id = record { thread = 0; serial = 1 } }

abbrev owned : Option ℕ → Store
owned owner = record { id = record { thread = 0; serial = 1 }; thing = Mutex owner } ∷ []

-- a free one is taken, and is the caller's
takes : reply_to 16 (owned None) 2 (On mutex Lock) ≡ Done
takes = refl

is_taken : store_behind 16 (owned None) 2 (On mutex Lock) ≡ owned (Some 2)
is_taken = refl

-- its owner may not take it again, and another waits
takes_twice : reply_to 16 (owned (Some 2)) 2 (On mutex Lock) ≡ Failed LockOwned
takes_twice = refl

waits_for_owner : waits (owned (Some 2)) 3 (On mutex Lock) ≡ true
waits_for_owner = refl

owner_need_not_wait : waits (owned (Some 2)) 2 (On mutex Lock) ≡ false
owner_need_not_wait = refl

-- its owner alone gives it back; nobody's is no one's to give back
gives_back : store_behind 16 (owned (Some 2)) 2 (On mutex Unlock) ≡ owned None
gives_back = refl

foreign : reply_to 16 (owned (Some 2)) 3 (On mutex Unlock) ≡ Failed UnlockForeign
foreign = refl

free : reply_to 16 (owned None) 3 (On mutex Unlock) ≡ Failed UnlockForeign
free = refl

-- the end of its owner frees it, the end of another does not
end_frees : store_behind 16 (owned (Some 2)) 2 (End Steps) ≡ owned None
end_frees = refl

end_leaves : store_behind 16 (owned (Some 2)) 3 (End Steps) ≡ owned (Some 2)
end_leaves = refl

-- ---- threads

abbrev first : Id
first = record { thread = 0; serial = 101 }

abbrev second : Id
second = record { thread = 1; serial = 102 }

abbrev state : (number maker : ℕ) → Option Ending → ThreadState
state number maker end = record { number = number; maker = maker; gathered = false; end = end }

-- the main thread started thread 1, and thread 1 started thread 2
abbrev family : Option Ending → Store
family end = record { id = first; thing = Thread (state 1 0 end) } ∷ record { id = second; thing = Thread (state 2 1 None) } ∷ []

starts : reply_to 16 (family None) 0 (Start (record { thread = 0; serial = 103 }) 7 []) ≡ Started 3 (to_thread (record { thread = 0; serial = 103 }))
starts = refl

-- two threads that nobody gathered take both slots that three leave to threads other than the main one
limit : reply_to 3 (family None) 0 (Start (record { thread = 0; serial = 103 }) 7 []) ≡ Failed ThreadLimit
limit = refl

grandchild : generation_of (family None) 2 ≡ 2
grandchild = refl

-- whoever joins a thread that runs waits, but for that thread itself
joiner_waits : waits (family None) 0 (On (to_thread first) Join) ≡ true
joiner_waits = refl

joins_itself : reply_to 16 (family None) 1 (On (to_thread first) Join) ≡ Failed JoinSelf
joins_itself = refl

itself_need_not_wait : waits (family None) 1 (On (to_thread first) Join) ≡ false
itself_need_not_wait = refl

-- the end is told to whoever joins, and the maker alone gathers
told : reply_to 16 (family (Some Steps)) 2 (On (to_thread first) Join) ≡ Ended Steps
told = refl

not_gathered : ungathered_count (store_behind 16 (family (Some Steps)) 2 (On (to_thread first) Join)) ≡ 2
not_gathered = refl

gathered : ungathered_count (store_behind 16 (family (Some Steps)) 0 (On (to_thread first) Join)) ≡ 1
gathered = refl

gathered_at_end : store_behind 16 (family (Some Steps)) 0 (Gather (to_thread first)) ≡ store_behind 16 (family (Some Steps)) 0 (On (to_thread first) Join)
gathered_at_end = refl

-- ---- how a thread ends: by its own end, then by the ends of the threads that it gathers in their order, and last by want of memory there

-- a second thread that ended with its steps used up is told, though memory kept the first from being gathered
steps_before_lack : closing (later (ending.Value Nil) Steps) true ≡ Steps
steps_before_lack = refl

lack : closing (ending.Value Nil) true ≡ Memory
lack = refl

first_of_two : later (later (ending.Value Nil) Sink) Steps ≡ Sink
first_of_two = refl

-- ---- the history of one order

abbrev global : Reference
global = record { sort = sort.Object 4294967295; id = globals }

abbrev x : NameId
x = record { 0 = 5 }

abbrev event : ℕ → Call → Reply → Event
event t call r = record { thread = t; entry = record { step = 1; call = call; moved = []; reply = r } }

abbrev writes : ℕ → Event
writes t = event t (On global (SetField x (Int (pos 1)))) Done

abbrev reads : ℕ → Event
reads t = event t (On global (GetField x)) (Value (Int (pos 1)))

-- reads stand in the merge where they stood, those at one point by the numbers of their threads
merged_again : merge (history_of (writes 0 ∷ reads 1 ∷ writes 0 ∷ reads 0 ∷ []) ([] ∷ [] ∷ [])) ≡ writes 0 ∷ reads 1 ∷ writes 0 ∷ reads 0 ∷ []
merged_again = refl

by_threads : merge (history_of (writes 0 ∷ reads 1 ∷ reads 0 ∷ []) ([] ∷ [] ∷ [])) ≡ writes 0 ∷ reads 0 ∷ reads 1 ∷ []
by_threads = refl

printed_in_order : prints (event 1 (Print (7 ∷ [])) Done ∷ reads 0 ∷ event 0 (Print (8 ∷ 9 ∷ [])) Done ∷ []) ≡ 7 ∷ 8 ∷ 9 ∷ []
printed_in_order = refl
