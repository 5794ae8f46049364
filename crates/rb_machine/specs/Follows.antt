-- What a thread does, given the replies that it got: its machine, its private store and its log go together.
use Rattle.std.specs.Prelude.{◌≡◌, ◌≤◌, ◌-◌, ℕ, Bool, true, false, List, [], ◌∷◌, Some, None}
use Rattle.rb_model.specs.Values.{Value as Val, To, Reference}
use Rattle.rb_model.specs.declared.value.Sort.{Sort}
use Rattle.rb_model.specs.declared.value.Sort.TheVariants as sort
use Rattle.rb_model.specs.Acts.{Act, Reply, Done, handed}
use Rattle.rb_model.specs.Acts as reply
use Rattle.rb_model.specs.Ends.{End as Ending, Value, Full, Sink, Memory, told, later, closing}
use Rattle.rb_model.specs.Things.{Thing, gives_to, Object, Elements, Pairs, Mutex, Thread}
use Rattle.rb_model.specs.Private.{Private, Item, Leaves, bare, held, next_id, entered, acted}
use Rattle.rb_model.specs.Log.{Log, Entry, Call, On, Start, Gather, Print, End, fresh, logged, refused, filled, last_step}
use Rattle.rb_model.specs.Started.{next_thread, ungathered}
use Rattle.rb_machine.specs.Scopes.{Script}
use Rattle.rb_machine.specs.Control.{State}
use Rattle.rb_machine.specs.Move.{Go, Make, Ask, Begin, Show, Stop, move, replied, left_in, IsWant}

-- the sort of a thing
abbrev pub sort_of : Thing → Sort
sort_of (Object class fields) = sort.Object class
sort_of (Elements values) = sort.List
sort_of (Pairs pairs) = sort.Pairs
sort_of (Mutex owner) = sort.Mutex
sort_of (Thread state) = sort.Thread

-- a reference to the thing that is made next
abbrev pub next_thing : Private → Thing → Reference
next_thing h thing = record { sort = sort_of thing; id = next_id h }

-- the entry by which a thread takes over the end of one that it started
abbrev pub gather_entry : ℕ → Reference → Ending → Entry
gather_entry step thread how = record { step = step; call = Gather thread; moved = []; reply = reply.Ended how }

-- What a thread does behind its own work, at one step number: from a log, and the end so far, it gathers the threads that it has not
-- gathered, in the order in which it started them. Want of memory may leave one out, and it is told whether it did.
pub data Tail (step : ℕ) : Log → Ending → List Reference → Log → Ending → Bool → Type 0 where
  all_gathered : (l : Log) (e : Ending) → Tail step l e [] l e false
  gathers : (l l' : Log) (e how e' : Ending) (r : Reference) (rs : List Reference) (lacking : Bool) → Tail step (logged l (gather_entry step r how)) (later e how) rs l' e' lacking
      → Tail step l e (r ∷ rs) l' e' lacking
  leaves_out : (l l' : Log) (e e' : Ending) (r : Reference) (rs : List Reference) (lacking : Bool) → Tail step l e rs l' e' lacking → Tail step l e (r ∷ rs) l' e' true

-- A thread of a script makes at most N steps, and its machine begins with a state.
module _ (S : Script) (N : ℕ) (start : State) where
  -- how many steps were begun
  abbrev pub step_of : State → ℕ
  step_of s = N - left_in s

  -- the entry of a call of this thread
  abbrev pub entry : State → Call → List Item → Reply → Entry
  entry s call moved r = record { step = step_of s; call = call; moved = moved; reply = r }

  -- the thread comes to a state of its machine, with this log and this private store
  pub data At : Log → Private → State → Type 0 where
    here : (t : ℕ) → At fresh (bare t) start
    -- a silent move
    goes : (l : Log) (h : Private) (s s' : State) → At l h s → move S s ≡ Go s' → At l h s'
    -- a thing enters the private store under the next id
    makes : (l : Log) (h : Private) (s : State) (thing : Thing) → At l h s → move S s ≡ Make thing
        → At l (entered h thing) (replied s (reply.Value (To (next_thing h thing))))
    -- something is asked of a private thing: the plain step on it gives the reply, and there is no entry
    acts : (l : Log) (h : Private) (s : State) (r : Reference) (act : Act) (thing : Thing) → At l h s → move S s ≡ Ask r act → held h r.id ≡ Some thing
        → At l (acted h r.id act thing) (replied s (gives_to h.thread thing act))
    -- anything else that is asked of a thing is an entry; what it hands over moves, and the entry's reply goes to the machine
    asks : (l : Log) (h h' : Private) (s : State) (r : Reference) (act : Act) (moved : List Item) (answer : Reply) → At l h s → move S s ≡ Ask r act → held h r.id ≡ None
        → Leaves h (handed act) moved h' → At (logged l (entry s (On r act) moved answer)) h' (replied s answer)
    -- the start of a thread is an entry; what the thread is given moves
    starts : (l : Log) (h h' : Private) (s : State) (body : ℕ) (values : List Val) (moved : List Item) (answer : Reply) → At l h s → move S s ≡ Begin body values
        → Leaves h values moved h' → At (logged l (entry s (Start (next_thread h.thread l) body values) moved answer)) h' (replied s answer)
    -- a print is an entry
    prints : (l : Log) (h : Private) (s : State) (bytes : List ℕ) → At l h s → move S s ≡ Show bytes
        → At (logged l (entry s (Print bytes) [] Done)) h (replied s Done)

  -- How the machine's own work goes out, and at which step number: it ends; memory cuts it in place of a want, at a step number that is not
  -- above that want's and not below that of the entry before; the shared heap is too full for a call; or the sink refuses a print.
  pub data Comes : Log → Private → Ending → ℕ → Type 0 where
    ends : (l : Log) (h : Private) (s : State) (e : Ending) → At l h s → move S s ≡ Stop e → Comes l h e (step_of s)
    cut : (l : Log) (h : Private) (want : State) (n : ℕ) → At l h want → IsWant (move S want) → last_step l.entries ≤ n → n ≤ step_of want → Comes l h Memory n
    fills : (l : Log) (h h' : Private) (s : State) (r : Reference) (act : Act) (moved : List Item) (used asked : ℕ) → At l h s → move S s ≡ Ask r act → held h r.id ≡ None
        → Leaves h (handed act) moved h' → Comes (filled l (On r act) moved used asked) h (Full used asked) (step_of s)
    starts_full : (l : Log) (h h' : Private) (s : State) (body : ℕ) (values : List Val) (moved : List Item) (used asked : ℕ) → At l h s → move S s ≡ Begin body values
        → Leaves h values moved h' → Comes (filled l (Start (next_thread h.thread l) body values) moved used asked) h (Full used asked) (step_of s)
    refuses : (l : Log) (h : Private) (s : State) (bytes : List ℕ) → At l h s → move S s ≡ Show bytes → Comes (refused l (Print bytes) []) h Sink (step_of s)

  -- the last entry of a thread
  abbrev pub last_entry : ℕ → Ending → List Item → Entry
  last_entry step e moved = record { step = step; call = End e; moved = moved; reply = Done }

  -- what a thread does from its start to its End entry, with the private store that it leaves; what its end tells moves
  pub data Follows : Log → Ending → Private → Type 0 where
    closes : (l l' : Log) (h h' : Private) (own e : Ending) (n : ℕ) (lacking : Bool) (moved : List Item) → Comes l h own n → Tail n l own (ungathered l) l' e lacking
        → Leaves h (told (closing e lacking)) moved h' → Follows (logged l' (last_entry n (closing e lacking) moved)) (closing e lacking) h'
    -- want of memory, or a full heap, in place of the end with a value
    late : (l l' : Log) (h : Private) (own : Ending) (v : Val) (n : ℕ) → Comes l h own n → Tail n l own (ungathered l) l' (Value v) false
        → Follows (logged l' (last_entry n Memory [])) Memory h
    full : (l l' : Log) (h h' : Private) (own : Ending) (v : Val) (n used asked : ℕ) (moved : List Item) → Comes l h own n → Tail n l own (ungathered l) l' (Value v) false
        → Leaves h (v ∷ []) moved h' → Follows (logged (filled l' (End (Value v)) moved used asked) (last_entry n (Full used asked) [])) (Full used asked) h
