-- The run's one history: what all threads did with what they share, and the log of each.
use Rattle.std.specs.Prelude.{◌≡◌, ℕ, suc, ◌==◌, Bool, true, false, not, ◌||◌, ◌⊎◌, if◌then◌else◌, List, [], ◌∷◌, ◌++◌, length, map, filter, slice_get, Option, Some, None, is_none}
use Rattle.std.specs.List.{flat_map}
use Rattle.rb_model.specs.Values.{Value, Reference}
use Rattle.rb_model.specs.declared.value.Id.{Id}
use Rattle.rb_model.specs.Acts.{Act, GetField, At, Len, Copy, KGet, KHas, Started}
use Rattle.rb_model.specs.Ends.{End as Ending}
use Rattle.rb_model.specs.Things.{Thing, ThreadState, Thread}
use Rattle.rb_model.specs.Private.{Item}
use Rattle.rb_model.specs.Log.{Call, On, Start, End, Entry, Log, has_end, printed}
use Rattle.rb_model.specs.Started.{started}
use Rattle.rb_shared.specs.Lists.{Has, Each}
use Rattle.rb_shared.specs.Store.{Store, opening}
use Rattle.rb_shared.specs.Step.{Steps}

-- An event: an entry, and the number of the thread whose it is.
pub record Event : Type 0 where
  pub thread : ℕ
  pub entry : Entry

-- The log of a thread, and for each of its entries that is no event of the history, how many events the history had then.
pub record Placed : Type 0 where
  pub log : Log
  pub points : List (Option ℕ)

-- The history: the changes, and the reads that moved something, in their one order, and the threads by their numbers.
pub record History : Type 0 where
  pub events : List Event
  pub threads : List Placed

-- ---- which entries are events

abbrev pub is_read_act : Act → Bool
is_read_act (GetField name) = true
is_read_act (At index) = true
is_read_act (KGet key) = true
is_read_act (KHas key) = true
is_read_act Len = true
is_read_act Copy = true
is_read_act act = false

abbrev pub is_read : Call → Bool
is_read (On thing act) = is_read_act act
is_read call = false

abbrev pub moves_none : List Item → Bool
moves_none [] = true
moves_none (x ∷ xs) = false

-- a change, or a read that moves something
abbrev pub is_event : Entry → Bool
is_event e = not (is_read e.call) || not (moves_none e.moved)

-- each entry of a log that is no event has a point, and no other has
abbrev pub ArePoints : List Entry → List (Option ℕ) → Type 0
ArePoints [] [] = Unit {0}
ArePoints [] (p ∷ ps) = ⊥
ArePoints (e ∷ es) [] = ⊥
ArePoints (e ∷ es) (p ∷ ps) = (is_event e ≡ is_none p) × ArePoints es ps

-- ---- the merge: all entries of all threads in one order, the reads at their points

abbrev pub is_at : ℕ → Option ℕ → Bool
is_at k None = false
is_at k (Some n) = n == k

-- the reads of one thread at a point
abbrev pub reads_at : ℕ → ℕ → List Entry → List (Option ℕ) → List Event
reads_at k t (e ∷ es) (p ∷ ps) = if is_at k p then record { thread = t; entry = e } ∷ reads_at k t es ps else reads_at k t es ps
reads_at k t es ps = []

-- those of all threads, by the numbers of the threads, the first of which is t
abbrev pub all_reads_at : ℕ → ℕ → List Placed → List Event
all_reads_at k t [] = []
all_reads_at k t (p ∷ ps) = reads_at k t p.log.entries p.points ++ all_reads_at k (suc t) ps

abbrev pub merged : ℕ → List Event → List Placed → List Event
merged k [] ps = all_reads_at k 0 ps
merged k (e ∷ es) ps = all_reads_at k 0 ps ++ e ∷ merged (suc k) es ps

abbrev pub merge : History → List Event
merge h = merged 0 h.events h.threads

-- ---- legal

-- the plain steps of events take one store to another
abbrev pub Leads : ℕ → Store → List Event → Store → Type 0
Leads slots z [] z' = z' ≡ z
Leads slots z (e ∷ es) z' = (y : Store) × Steps slots z e.thread e.entry y × Leads slots y es z'

-- the entries of one thread
abbrev pub by : ℕ → List Event → List Entry
by t es = map (λ (e : Event). e.entry) (filter (λ (e : Event). e.thread == t) es)

abbrev pub entries_of : Option Placed → List Entry
entries_of None = []
entries_of (Some p) = p.log.entries

-- the threads that were started, with their numbers and things
abbrev pub all_started : List Event → List (ℕ × Reference)
all_started es = started (map (λ (e : Event). e.entry) es)

-- an event of another thread than the main one stands behind the start of that thread
abbrev pub IsBegun : List Event → Event → Type 0
IsBegun front e = (e.thread ≡ 0) ⊎ ((thread : Reference) × Has (all_started front) (e.thread, thread))

-- a log whose last entry is its one End
abbrev pub EndsOnce : List Entry → Type 0
EndsOnce entries = (front : List Entry) × (last : Entry) × (how : Ending) × (entries ≡ front ++ last ∷ []) × (last.call ≡ End how) × (has_end front ≡ false)

-- no entry moves a thread: threads are shared from their start
abbrev pub IsNoThread : Thing → Type 0
IsNoThread thing = (s : ThreadState) → thing ≡ Thread s → ⊥

abbrev pub MovesNoThread : Event → Type 0
MovesNoThread e = Each (λ (x : Item). IsNoThread x.thing) e.entry.moved

-- A history is legal where, over so many slots for threads:
pub record IsLegal (slots : ℕ) (h : History) : Type 0 where
  -- the plain steps of the merge follow one another from the opening store
  pub last : Store
  pub steps : Leads slots opening (merge h) last
  -- each thread's entries in the merge are its log, in its order, each once, and there is no other entry
  pub logs : (t : ℕ) → by t (merge h) ≡ entries_of (slice_get h.threads t)
  -- its events are the changes and the reads that moved something, and the other reads have points
  pub events : Each (λ (e : Event). is_event e.entry ≡ true) h.events
  pub points : Each (λ (p : Placed). ArePoints p.log.entries p.points) h.threads
  -- the threads are the main one and those that were started, each with one log
  pub threads : length h.threads ≡ suc (length (all_started (merge h)))
  -- a thread's first entry stands behind its start
  pub begun : (front behind : List Event) (e : Event) → merge h ≡ front ++ e ∷ behind → IsBegun front e
  -- no entry moves a thread: threads are shared from their start
  pub unmoved : Each MovesNoThread h.events
  -- the last entry of each log is its one End
  pub ends : Each (λ (p : Placed). EndsOnce p.log.entries) h.threads

-- ---- what a history tells

-- the bytes of its prints, in order
abbrev pub prints : List Event → List ℕ
prints es = flat_map (λ (e : Event). printed e.entry.call) es

-- Thread n was started so: with this body, and these values.
abbrev pub IsStarted : History → (n body : ℕ) → List Value → Type 0
IsStarted h n body values = (t step : ℕ) × (id : Id) × (moved : List Item) × (thread : Reference)
    × Has h.events (record { thread = t; entry = record { step = step; call = Start id body values; moved = moved; reply = Started n thread } })
