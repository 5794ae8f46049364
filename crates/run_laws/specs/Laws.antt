-- What holds of each point of the one order of all entries, and of a script that starts no thread.
use Rattle.std.specs.Prelude.{◌≡◌, ◌⊎◌, ℕ, true, false, List, [], ◌∷◌, ◌++◌, slice_get, Some, None}
use Rattle.rb_model.specs.declared.value.Id.{Id}
use Rattle.rb_model.specs.Values.{Reference}
use Rattle.rb_model.specs.Ends.{End}
use Rattle.rb_model.specs.Things.{Thing, mentioned}
use Rattle.rb_model.specs.Private.{Private, held}
use Rattle.rb_model.specs.Log.{Log, Call, On, Gather, last_step}
use Rattle.rb_shared.specs.Lists.{Has}
use Rattle.rb_shared.specs.Lists as shared
use Rattle.rb_shared.specs.Store.{Store, opening as opening_store, found}
use Rattle.rb_shared.specs.History.{Event, History, Placed, IsLegal, Leads, by, merge, prints}
use Rattle.rb_machine.specs.Scopes.{Script}
use Rattle.rb_machine.specs.Control.{State}
use Rattle.rb_machine.specs.Alone.{Alone, opening}
use Rattle.rb_machine.specs.Follows.{At, Follows, sort_of}
use Rattle.rb_machine.specs.Laws.{is_cut}
use Rattle.rb_closure.specs.Mentions.{values_in}
use Rattle.rb_closure.specs.Closure.{Each, IfReference, IsHeld, Among, told_by}
use Rattle.rb_closure.specs.Sharing.{starts_none}
use Rattle.run_laws.specs.Doing.{Begins, EachDoes, MovesThings, MadeFew}

-- ---- what is shared

-- the shared store has the thing of a reference, which is of its sort
abbrev pub IsShared : Store → Reference → Type 0
IsShared z r = (thing : Thing) × (found z r.id ≡ Some thing) × (sort_of thing ≡ r.sort)

-- each reference that a shared thing mentions is to a shared thing
abbrev pub IsClosed : Store → Type 0
IsClosed z = (id : Id) (thing : Thing) → found z id ≡ Some thing → Each (IfReference (IsShared z)) (mentioned thing)

-- each reference that any thread was told is to a shared thing
abbrev pub HasTold : List Event → Store → Type 0
HasTold front z = (e : Event) (r : Reference) → Has front e → Among (told_by e.entry) r → IsShared z r

-- Behind a front of the one order of all entries the shared store is this, where each thread does what the reference machine does, and what
-- moves is numbered as a thing: the machine with a budget without bounds could make as many things as there are numbers.
pub record Reaches (S : Script) (N slots : ℕ) (h : History) (front : List Event) (z : Store) : Type 0 where
  pub legal : IsLegal slots h
  pub does : EachDoes S N h
  pub numbered : shared.Each MovesThings h.events
  pub behind : List Event
  pub order : merge h ≡ front ++ behind
  pub leads : Leads slots opening_store front z

-- At each point of a run what is shared is closed, and what was told is shared.
abbrev pub SharedIsClosed : Type 0
SharedIsClosed = (S : Script) (N slots : ℕ) (h : History) (front : List Event) (z : Store) → Reaches S N slots h front z → IsClosed z

abbrev pub ToldIsShared : Type 0
ToldIsShared = (S : Script) (N slots : ℕ) (h : History) (front : List Event) (z : Store) → Reaches S N slots h front z → HasTold front z

-- the things of which a call asks something
abbrev pub asked_of : Call → List Reference
asked_of (On thing act) = thing ∷ []
asked_of (Gather thread) = thread ∷ []
asked_of call = []

-- So each thing of which an entry asks something is shared before it.
abbrev pub AskedIsShared : Type 0
AskedIsShared = (S : Script) (N slots : ℕ) (h : History) (front rest : List Event) (e : Event) (z : Store)
    → (reached : Reaches S N slots h front z) → reached.behind ≡ e ∷ rest → Each (IsShared z) (asked_of e.entry.call)

-- What a thread names that began in the front is a thing of its private store, or a shared one.
abbrev pub IsOwnOrShared : Private → Store → Reference → Type 0
IsOwnOrShared own z r = IsHeld own r ⊎ IsShared z r

-- the state of a thread names such things, and so does each private thing
abbrev pub NamesOwnOrShared : Private → Store → State → Type 0
NamesOwnOrShared own z s =
    Each (IfReference (IsOwnOrShared own z)) (values_in s)
    × ((id : Id) (thing : Thing) → held own id ≡ Some thing → Each (IfReference (IsOwnOrShared own z)) (mentioned thing))

abbrev pub ThreadsNameShared : Type 0
ThreadsNameShared = (S : Script) (N slots : ℕ) (h : History) (front : List Event) (z : Store) → Reaches S N slots h front z
    → (start : State) (l : Log) (own : Private) (s : State) → Begins S N front own.thread start → At S N start l own s → l.entries ≡ by own.thread front
    → NamesOwnOrShared own z s

-- And no shared thing is in the private store of any thread, wherever this is behind its entries so far.
abbrev pub SharedIsApart : Type 0
SharedIsApart = (S : Script) (N slots : ℕ) (h : History) (front : List Event) (z : Store) → Reaches S N slots h front z
    → (start : State) (l : Log) (own : Private) (s : State) → At S N start l own s → l.entries ≡ by own.thread front → MadeFew own
    → (id : Id) (thing : Thing) → found z id ≡ Some thing → held own id ≡ None

-- ---- a script that starts no thread

-- in a legal history the main thread does so from the opening, and ends so
pub record MainDoes (S : Script) (N slots : ℕ) (h : History) (p : Placed) (how : End) : Type 0 where
  pub legal : IsLegal slots h
  pub first : slice_get h.threads 0 ≡ Some p
  pub store : Private
  pub follows : Follows S N (opening S N) p.log how store
  pub whose : store.thread ≡ 0

-- A script that starts no thread does with its shared things what it does alone: the bytes of the prints, the end, and the steps.
abbrev pub DoesAsAlone : Type 0
DoesAsAlone = (S : Script) (N slots : ℕ) (h : History) (p : Placed) (how : End) → starts_none S.program ≡ true → MainDoes S N slots h p how → is_cut how ≡ false
    → Alone S N (prints h.events) how (last_step p.log.entries)

-- Where it is cut short, it has shown a front of what it shows alone.
abbrev pub ShowsAFront : Type 0
ShowsAFront = (S : Script) (N slots : ℕ) (h : History) (p : Placed) (how : End) (bytes : List ℕ) (own : End) (steps : ℕ)
    → starts_none S.program ≡ true → MainDoes S N slots h p how → Alone S N bytes own steps → (behind : List ℕ) × (bytes ≡ prints h.events ++ behind)
