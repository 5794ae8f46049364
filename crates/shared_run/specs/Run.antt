-- The run so far, and what is known of it.
use Rattle.std.specs.Prelude.{◌≡◌, ◌≤◌, ◌<◌, ◌+◌, ◌^◌, ◌⊎◌, ℕ, zero, suc, Bool, true, false, List, [], ◌∷◌, ◌++◌, length, take, Option, Some, None}
use Rattle.std.specs.List.{flat_map}
use Rattle.std.specs.Option.{ForSome}
use Rattle.rb_edge.specs.Edge.{Adds, Rose}
use Rattle.rb_model.specs.declared.value.Id.{Id}
use Rattle.rb_model.specs.Ends.{End as Ending}
use Rattle.rb_model.specs.Log.{Call, Entry, Refusal, Log, fresh, has_end, printed}
use Rattle.rb_model.specs.Private.{Item}
use Rattle.rb_model.specs.Started.{started, started_by, thread_id}
use Rattle.rb_model.specs.Things.{ThreadState, Thread}
use Rattle.rb_model.specs.Values.{Reference}
use Rattle.rb_shared.specs.Asking.{IsOwnId, HasNextId, ids_moved}
use Rattle.rb_shared.specs.Closing.{IsFront}
use Rattle.rb_shared.specs.History.{Event, Leads, EndsOnce, IsBegun, IsNoThread, MovesNoThread, all_started, by, is_read, prints}
use Rattle.rb_shared.specs.Lists.{Has, Each}
use Rattle.rb_shared.specs.Step.{Steps}
use Rattle.rb_shared.specs.Store.{Store, globals, opening, threads, generation_of}
use Rattle.rb_shared.specs.Threads.{ThreadLog}
use Rattle.rb_shared.specs.View.{View}
use Rattle.shared_run.specs.Standing.{NamesHeld, Fits, MentionIn, AreSized, values_in_call}

-- The run so far: the entries of all threads in their one order, what each thread was refused, by the numbers of the threads, and the store
-- that the entries lead to.
pub record Run : Type 0 where
  pub events : List Event
  pub refusals : List (List Refusal)
  pub store : Store

-- ---- logs

-- what one thread was refused
abbrev pub refused_at : List (List Refusal) → ℕ → List Refusal
refused_at [] t = []
refused_at (rs ∷ more) zero = rs
refused_at (rs ∷ more) (suc t) = refused_at more t

-- the log of one thread
abbrev pub log_of : Run → ℕ → Log
log_of run t = record { entries = by t run.events; refusals = refused_at run.refusals t }

-- a thread of this run
abbrev pub IsThread : Run → ℕ → Type 0
IsThread run t = t < length run.refusals

-- it is the main one, or was started
abbrev pub WasBegun : List Event → ℕ → Type 0
WasBegun events t = (t ≡ 0) ⊎ ((thread : Reference) × Has (all_started events) (t, thread))

-- ---- the run

-- each event stands behind the start of its thread
abbrev pub AreBegun : (front behind : List Event) → Type 0
AreBegun front [] = Unit {0}
AreBegun front (e ∷ es) = IsBegun front e × AreBegun (front ++ e ∷ []) es

-- thread n was started by one of a lower number
abbrev pub WasMade : List Event → ℕ → Type 0
WasMade events n = (t : ℕ) × (thread : Reference) × (t < n) × Has (started (by t events)) (n, thread)

-- a thing of the store is the globals, was moved by the thread that made it, or is a thread that was started
abbrev pub WasMoved : List Event → Id → Type 0
WasMoved events id = (id.serial < 2 ^ 63) × Has (ids_moved (by id.thread events)) id

abbrev pub WasStarted : List Event → Id → Type 0
WasStarted events id = (t count : ℕ) × (id ≡ thread_id t count) × (count < length (started (by t events)))

abbrev pub ComesFrom : List Event → Item → Type 0
ComesFrom events x = (x.id ≡ globals) ⊎ (WasMoved events x.id ⊎ WasStarted events x.id)

-- a thread of the store that has an end made its last call
abbrev pub EndsSo : List Event → Item → Type 0
EndsSo events x = (s : ThreadState) (how : Ending) → x.thing ≡ Thread s → s.end ≡ Some how → has_end (by s.number events) ≡ true

-- What holds of the run.
pub record IsRun (slots : ℕ) (run : Run) : Type 0 where
  -- the plain steps of the entries lead from the opening store to the store
  pub leads : Leads slots opening run.events run.store
  -- there are the main thread and those of the store, each with its start and its refusals
  pub counted : length run.refusals ≡ suc (length (threads run.store))
  pub started : length (all_started run.events) ≡ length (threads run.store)
  pub begun : AreBegun [] run.events
  pub within : Each (λ (e : Event). IsThread run e.thread) run.events
  pub made : (n : ℕ) → 0 < n → IsThread run n → WasMade run.events n
  -- no entry moved a thread
  pub unmoved : Each MovesNoThread run.events
  -- the things of the store
  pub from : Each (ComesFrom run.events) run.store
  pub ended : Each (EndsSo run.events) run.store
  pub mentions : MentionIn run.store run.store
  pub sized : AreSized run.store

-- ---- what the view of a pass says of the run

-- a log that has ended is whole, and no other has an end
abbrev pub IsOver : Bool → Log → Type 0
IsOver true log = EndsOnce log.entries
IsOver false log = has_end log.entries ≡ false

-- a log that has ended is the whole log of its thread
abbrev pub IsWhole : Run → ThreadLog → Type 0
IsWhole run t = t.ended ≡ true → (t.log ≡ log_of run t.thread) × EndsOnce t.log.entries

-- a log that was told is a front of the log of its thread, and the whole of it once it has ended
abbrev pub IsTold : Run → ThreadLog → Type 0
IsTold run t = IsThread run t.thread × IsWhole run t × ((behind : List Entry) × (by t.thread run.events ≡ t.log.entries ++ behind))

-- thread n waits for the pass that is to be split off for it, one generation behind its maker
abbrev pub IsDue : Run → View → ℕ → Type 0
IsDue run v n = IsThread run n × WasBegun run.events n × (generation_of run.store n ≡ v.generation + 1) × (log_of run n ≡ fresh) × (n ≡ v.thread → ⊥)

pub record Knows (slots : ℕ) (run : Run) (v : View) : Type 0 where
  pub same_slots : v.slots ≡ slots
  pub within : IsThread run v.thread
  pub begun : WasBegun run.events v.thread
  pub generation : v.generation ≡ generation_of run.store v.thread
  pub log : v.log ≡ log_of run v.thread
  pub over : IsOver v.ended v.log
  pub known : Each (NamesHeld run.store) v.known
  pub told : Each (IsTold run) v.told
  pub due : ForSome v.unsplit (IsDue run v)

-- a view that differs in what was polled and asked alone, or has forgotten which thread was started last
abbrev pub IsNote : View → View → Type 0
IsNote v w = (u : Option ℕ) × ((u ≡ v.unsplit) ⊎ (u ≡ None)) × (w ≡ record v { polled = w.polled; asked = w.asked; unsplit = u })

-- ---- one entry, or one refusal, more

-- one more list of refusals where a thread was started
abbrev pub opened : List (List Refusal) → List (ℕ × Reference) → List (List Refusal)
opened refusals [] = refusals
opened refusals (p ∷ ps) = refusals ++ [] ∷ []

abbrev pub event_of : ℕ → Entry → Event
event_of t e = record { thread = t; entry = e }

abbrev pub run_after : Run → ℕ → Entry → Store → Run
run_after run t e z = record { events = run.events ++ event_of t e ∷ []; refusals = opened run.refusals (started_by e.call e.reply); store = z }

-- one refusal more of thread t
abbrev pub refused_more : List (List Refusal) → ℕ → Refusal → List (List Refusal)
refused_more [] t r = []
refused_more (rs ∷ more) zero r = (rs ++ r ∷ []) ∷ more
refused_more (rs ∷ more) (suc t) r = rs ∷ refused_more more t r

abbrev pub run_refused : Run → ℕ → Refusal → Run
run_refused run t r = record { events = run.events; refusals = refused_more run.refusals t r; store = run.store }

-- a read of thread t, put in between these events
abbrev pub run_read : Run → List Event → List Event → ℕ → Entry → Run
run_read run front behind t e = record { events = front ++ event_of t e ∷ behind; refusals = run.refusals; store = run.store }

-- What a thread reads late may stand behind the front of a run: the thread had begun by then and made no entry since, and its plain step there
-- is this read, which moves nothing and leaves the store as it was.
pub record MayRead (slots : ℕ) (run : Run) (t : ℕ) (e : Entry) (front behind : List Event) : Type 0 where
  pub split : run.events ≡ front ++ behind
  pub begun : WasBegun front t
  pub since : by t behind ≡ []
  pub reads : is_read e.call ≡ true
  pub bare : e.moved ≡ []
  pub store : Store
  pub leads : Leads slots opening front store
  pub steps : Steps slots store t e store

-- A point of a run behind which thread t may still put in a read: it had begun by then and made no entry since. There the store was so.
pub record Point (slots : ℕ) (run : Run) (t : ℕ) (P : Store → Type 0) : Type 0 where
  pub front : List Event
  pub behind : List Event
  pub split : run.events ≡ front ++ behind
  pub begun : WasBegun front t
  pub since : by t behind ≡ []
  pub store : Store
  pub leads : Leads slots opening front store
  pub holds : P store

-- a read, with the reply that it had at a point behind which thread t may still put it in
abbrev pub MayStill : ℕ → Run → ℕ → Entry → Type 0
MayStill slots run t e = (is_read e.call ≡ true) × (e.moved ≡ []) × Point slots run t (λ y. Steps slots y t e y)

-- What moves with an entry of a pass, and what it mentions, is as the rule of the store asks.
pub record MayEnter (v : View) (z : Store) (e : Entry) : Type 0 where
  pub hands : Each (Fits (z ++ e.moved)) (values_in_call e.call)
  pub mentions : MentionIn (z ++ e.moved) e.moved
  pub sized : AreSized e.moved
  pub own : Each (λ (x : Item). IsOwnId v.thread x.id) e.moved
  pub no_threads : Each (λ (x : Item). IsNoThread x.thing) e.moved
  pub next : HasNextId v e.call

-- ---- the sink

-- what a sink tells, how often it has failed, and whether it is done with
pub record Sunk : Type 0 where
  pub told : Option (List ℕ)
  pub faults : ℕ
  pub failed : Bool

-- all that was refused
abbrev pub all_refused : List (List Refusal) → List Refusal
all_refused refusals = flat_map (λ (rs : List Refusal). rs) refusals

-- A refusal without numbers came of a sink that has failed. What the numbers of another mean, each store says: none are ever told where that is never so.
abbrev pub IsMeant : (ℕ → ℕ → Type 0) → Bool → Option (ℕ × ℕ) → Type 0
IsMeant Overflows failed None = failed ≡ true
IsMeant Overflows failed (Some (used, wanted)) = Overflows used wanted

-- The sink has taken the prints in their order, and where it failed a front of one print that was refused. Each refusal is meant.
pub record Stands (Overflows : ℕ → ℕ → Type 0) (begun : Sunk) (events : List Event) (refusals : List (List Refusal)) (sink : Sunk) : Type 0 where
  pub rest : List ℕ
  pub told : Adds begun.told sink.told (prints events ++ rest)
  pub rises : begun.faults ≤ sink.faults
  pub cause : sink.failed ≡ true → Rose begun.faults sink.faults
  pub whole : sink.failed ≡ false → rest ≡ []
  pub front : (rest ≡ []) ⊎ IsFront (all_refused refusals) rest
  pub refused : (r : Refusal) → Has (all_refused refusals) r → IsMeant Overflows sink.failed r.words

-- ---- what the sink did

-- a call prints nothing, or its bytes come behind the others where the sink had not failed
abbrev pub SinkDid : Call → Sunk → Sunk → Type 0
SinkDid call old new =
    (old.faults ≤ new.faults) × (new.failed ≡ old.failed)
    × (((printed call ≡ []) × (new.told ≡ old.told)) ⊎ ((old.failed ≡ false) × Adds old.told new.told (printed call)))

-- the sink took nothing, since it had failed; or it failed, and took a front of what was to be printed
abbrev pub SinkRefused : Call → Sunk → Sunk → Type 0
SinkRefused call old new = (old.faults ≤ new.faults) × (new.failed ≡ true)
    × (((old.failed ≡ true) × (new.told ≡ old.told))
    ⊎ ((old.failed ≡ false) × Rose old.faults new.faults × ((n : ℕ) × (n < length (printed call)) × Adds old.told new.told (take n (printed call)))))
