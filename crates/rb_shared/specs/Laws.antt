-- What holds of every order of the entries of all threads in which each step is the plain one.
use Rattle.std.specs.Prelude.{◌≡◌, ◌<◌, ℕ, suc, ◌==◌, ◌&&◌, ◌||◌, Bool, true, false, List, [], ◌∷◌, ◌++◌, length, Some}
use Rattle.rb_model.specs.declared.value.Id.{Id}
use Rattle.rb_model.specs.Values.{Reference, same_id}
use Rattle.rb_model.specs.Acts.{Join, Lock, Unlock, Done, Ended}
use Rattle.rb_model.specs.Ends.{End as Ending}
use Rattle.rb_model.specs.Things.{Thing, ThreadState, Mutex, Thread}
use Rattle.rb_model.specs.Private.{Item}
use Rattle.rb_model.specs.Log.{Call, On, Gather, End, Entry, Refusal}
use Rattle.rb_model.specs.Started.{to_thread}
use Rattle.rb_shared.specs.Lists.{Has, Each}
use Rattle.rb_shared.specs.Store.{Store, opening, found, ungathered_count}
use Rattle.rb_shared.specs.Step.{Steps}
use Rattle.rb_shared.specs.Placing.{history_of}
use Rattle.rb_shared.specs.History.{Event, Leads, by, all_started, IsBegun, EndsOnce, MovesNoThread, IsLegal}

-- ---- threads

-- thread n ended so
abbrev pub HasEndedSo : List Event → ℕ → Ending → Type 0
HasEndedSo es n how = (e : Event) × Has es e × (e.thread ≡ n) × (e.entry.call ≡ End how)

-- a call that takes over the end of a thread
abbrev pub IsJoin : Call → Id → Type 0
IsJoin (On r Join) id = r.id ≡ id
IsJoin (Gather r) id = r.id ≡ id
IsJoin call id = ⊥

-- A thread whose end is told to another was started before that, and its end stands before that in the one order of all entries. So whoever
-- joins a thread comes behind all that this thread did.
abbrev pub JoinsComeBehindEnds : Type 0
JoinsComeBehindEnds = (slots : ℕ) (front behind : List Event) (e : Event) (z : Store) (id : Id) (how : Ending)
    → Leads slots opening (front ++ e ∷ behind) z → Each MovesNoThread (front ++ e ∷ behind) → IsJoin e.entry.call id → e.entry.reply ≡ Ended how
    → (n : ℕ) × Has (all_started front) (n, to_thread id) × HasEndedSo front n how

-- Where a thread that is not the maker joins another, no slot comes free: as many threads wait to be gathered as before.
abbrev pub OthersFreeNoSlot : Type 0
OthersFreeNoSlot = (slots : ℕ) (z z' : Store) (t : ℕ) (e : Entry) (id : Id) (s : ThreadState)
    → Steps slots z t e z' → IsJoin e.call id → e.moved ≡ [] → found z id ≡ Some (Thread s) → (s.maker == t) ≡ false → ungathered_count z' ≡ ungathered_count z

-- ---- mutexes

-- a call that gives a mutex back
abbrev pub is_unlock_of : Id → Call → Bool
is_unlock_of id (On r Unlock) = same_id r.id id
is_unlock_of id call = false

abbrev pub is_last : Call → Bool
is_last (End how) = true
is_last call = false

-- thread t gives the mutex back, or ends
abbrev pub gives_back : ℕ → Id → Event → Bool
gives_back t id e = e.thread == t && (is_unlock_of id e.entry.call || is_last e.entry.call)

-- Only the owner of a mutex is answered that it is given back.
abbrev pub OwnersAloneUnlock : Type 0
OwnersAloneUnlock = (slots : ℕ) (z z' : Store) (t : ℕ) (e : Entry) (r : Reference)
    → Steps slots z t e z' → e.call ≡ On r Unlock → e.reply ≡ Done → found (z ++ e.moved) r.id ≡ Some (Mutex (Some t))

-- Where a thread took a mutex, and one takes it later, the first has given it back in between, or has ended.
abbrev pub LocksExclude : Type 0
LocksExclude = (slots : ℕ) (z1 z2 z3 z4 : Store) (first last : Event) (between : List Event) (r q : Reference)
    → Steps slots z1 first.thread first.entry z2 → first.entry.call ≡ On r Lock → first.entry.reply ≡ Done
    → Leads slots z2 between z3
    → Steps slots z3 last.thread last.entry z4 → last.entry.call ≡ On q Lock → last.entry.reply ≡ Done → q.id ≡ r.id
    → (e : Event) × Has between e × (gives_back first.thread r.id e ≡ true)

-- a mutex that moves is nobody's, or is owned by the thread that moves it
abbrev pub IsOwnMutex : ℕ → Thing → Type 0
IsOwnMutex t thing = (owner : ℕ) → thing ≡ Mutex (Some owner) → owner ≡ t

abbrev pub MovesOwnMutexes : Event → Type 0
MovesOwnMutexes e = Each (λ (x : Item). IsOwnMutex e.thread x.thing) e.entry.moved

-- A thread that has ended owns no mutex, whatever the others do behind its end.
abbrev pub EndedOwnNothing : Type 0
EndedOwnNothing = (slots : ℕ) (y y' z : Store) (last : Event) (behind : List Event) (how : Ending) (id : Id) (owner : ℕ)
    → Steps slots y last.thread last.entry y' → last.entry.call ≡ End how → Leads slots y' behind z
    → Each (λ (e : Event). (e.thread == last.thread) ≡ false) behind → Each MovesOwnMutexes behind
    → found z id ≡ Some (Mutex (Some owner)) → (owner == last.thread) ≡ false

-- ---- one order

-- The history of one order is legal: where the steps of the order are the plain ones, each thread began behind its start and ended with its one
-- End, no entry moves a thread, and there are refusals, if none, of each thread. The reads at one point may be those of many threads, and then
-- stand by the numbers of these in the merge.
abbrev pub OneOrderIsLegal : Type 0
OneOrderIsLegal = (slots : ℕ) (es : List Event) (refusals : List (List Refusal)) (z : Store)
    → Leads slots opening es z
    → length refusals ≡ suc (length (all_started es))
    → Each (λ (e : Event). e.thread < length refusals) es
    → ((front behind : List Event) (e : Event) → es ≡ front ++ e ∷ behind → IsBegun front e)
    → ((t : ℕ) → t < length refusals → EndsOnce (by t es))
    → Each MovesNoThread es
    → IsLegal slots (history_of es refusals)
