-- What a call needs of the thread that makes it.
use Rattle.std.specs.Prelude.{◌≡◌, ◌≤◌, ◌<◌, ℕ, ◌^◌, Bool, true, false, ◌⊎◌, List, [], ◌∷◌, ◌++◌, length, map, Some, None}
use Rattle.std.specs.List.{flat_map}
use Rattle.std.specs.Option.{ForSome}
use Rattle.rb_model.specs.declared.call.Call.{Call as Held}
use Rattle.rb_model.specs.declared.moved.MovedItem.{MovedItem}
use Rattle.rb_model.specs.declared.value.Id.{Id}
use Rattle.rb_model.specs.declared.value.Ref.{Ref}
use Rattle.rb_model.specs.Acts.{Join}
use Rattle.rb_model.specs.Ends as ending
use Rattle.rb_model.specs.Values.{Value, Reference, same_id}
use Rattle.rb_model.specs.Things.{Thing, Field, Object, Elements, Pairs, Mutex, Thread, is_integer, max_elements, has_key}
use Rattle.rb_model.specs.Private.{Item}
use Rattle.rb_model.specs.Log.{Call, On, Start, Gather, End, Entry, asked}
use Rattle.rb_model.specs.Moving.{items_of, ref_of, receiver, refs_in_call, refs_in_moved}
use Rattle.rb_model.specs.Started.{started, next_thread}
use Rattle.rb_shared.specs.Lists.{Has, Each}
use Rattle.rb_shared.specs.Replies.{Serves}
use Rattle.rb_shared.specs.Threads.{HasEnded}
use Rattle.rb_shared.specs.View.{View, ask_of}

abbrev pub Knows : View → Ref → Type 0
Knows v r = Has v.known r

-- a reference names a thing that moves, with its sort
abbrev pub NamesOne : List MovedItem → Ref → Type 0
NamesOne [] r = ⊥
NamesOne (m ∷ ms) r = (((ref_of m).sort ≡ r.sort) × (m.id ≡ r.id)) ⊎ NamesOne ms r

-- ---- what moves

-- an id of a thing that thread t made, and that is no thread
abbrev pub IsOwnId : ℕ → Id → Type 0
IsOwnId t id = (id.thread ≡ t) × (1 ≤ id.serial) × (id.serial < 2 ^ 63)

-- no entry of these moved the thing of an id
abbrev pub ids_moved : List Entry → List Id
ids_moved entries = flat_map (λ (e : Entry). map (λ (x : Item). x.id) e.moved) entries

abbrev pub IsNoneOf : List Id → Id → Type 0
IsNoneOf [] id = Unit {0}
IsNoneOf (x ∷ xs) id = (same_id x id ≡ false) × IsNoneOf xs id

abbrev pub AllDiffer : List Id → Type 0
AllDiffer [] = Unit {0}
AllDiffer (x ∷ xs) = IsNoneOf xs x × AllDiffer xs

-- no two fields have one name, and one whose value is no integer is wide
abbrev pub HasName : List Field → Field → Type 0
HasName [] f = ⊥
HasName (g ∷ gs) f = (g.name ≡ f.name) ⊎ HasName gs f

abbrev pub AreFields : List Field → Type 0
AreFields [] = Unit {0}
AreFields (f ∷ fs) = (HasName fs f → ⊥) × (is_integer f.value ≡ false → f.wide ≡ true) × AreFields fs

-- no two pairs have one key
abbrev pub ArePairs : List (Value × Value) → Type 0
ArePairs [] = Unit {0}
ArePairs (p ∷ ps) = (has_key p.0 ps ≡ false) × ArePairs ps

-- a thing that thread t may have moved
abbrev pub MayMove : ℕ → Thing → Type 0
MayMove t (Object class fields) = AreFields fields
MayMove t (Elements values) = length values ≤ max_elements
MayMove t (Pairs pairs) = (length pairs ≤ max_elements) × ArePairs pairs
MayMove t (Mutex None) = Unit {0}
MayMove t (Mutex (Some owner)) = owner ≡ t
MayMove t (Thread s) = ⊥

-- ---- the call

-- an act on a known thing is one that serves its sort
abbrev pub ReceivesAct : View → Ref → Call → Type 0
ReceivesAct v r (On thing act) = Knows v r × Serves r.sort act
ReceivesAct v r (Gather thread) = Knows v r × Serves r.sort Join
ReceivesAct v r call = Unit {0}

-- a thread that is started has the next id
abbrev pub HasNextId : View → Call → Type 0
HasNextId v (Start id body values) = id ≡ next_thread v.thread v.log
HasNextId v call = Unit {0}

-- whether a call may need room among the shared things: one on a thing, the start of a thread, and an end with a value
abbrev pub may_fill : Call → Bool
may_fill (On thing act) = true
may_fill (Start thing body values) = true
may_fill (End (ending.Value v)) = true
may_fill call = false

-- a thread gathers those alone that it started
abbrev pub GathersOwn : View → Call → Type 0
GathersOwn v (Gather thread) = (n : ℕ) × (r : Reference) × Has (started v.log.entries) (n, r) × (r.id ≡ thread.id)
GathersOwn v call = Unit {0}

-- the whole log of a thread that this one started was told before it takes over that thread's end
abbrev pub WasTold : View → Id → Type 0
WasTold v id = (n : ℕ) → (r : Reference) → Has (started v.log.entries) (n, r) → r.id ≡ id → HasEnded v.told n

abbrev pub HasJoined : View → Call → Type 0
HasJoined v (On thing Join) = WasTold v thing.id
HasJoined v (Gather thread) = WasTold v thread.id
HasJoined v call = Unit {0}

-- Thread and store need not look at anything else before a call:
pub record MayAsk (v : View) (call : Held) (moved : List MovedItem) : Type 0 where
  -- the receiver is known, and of a sort that the act is for
  pub receives : ForSome (receiver call) (λ r. ReceivesAct v r (asked call))
  -- each other reference in the call or in what moves is known, or names one of the things that move
  pub known : Each (λ r. Knows v r ⊎ NamesOne moved r) (refs_in_call call ++ refs_in_moved moved)
  -- what moves are things of this thread, each once, none of which moved before
  pub own : Each (λ (m : MovedItem). IsOwnId v.thread m.id) moved
  pub once : AllDiffer (map (λ (m : MovedItem). m.id) moved)
  pub first : Each (λ (m : MovedItem). IsNoneOf (ids_moved v.log.entries) m.id) moved
  pub things : Each (λ (x : Item). MayMove v.thread x.thing) (items_of moved)
  -- and nothing moves with a call that needs no room
  pub bare : may_fill (asked call) ≡ false → moved ≡ []
  -- a thread that starts, and one whose end is taken over
  pub next : HasNextId v (asked call)
  pub gathers : GathersOwn v (asked call)
  pub joined : HasJoined v (asked call)

-- nobody goes round `quick`: where nothing moves, it said of this very call that it can not be done at once
abbrev pub WasQuick : View → ℕ → Call → List MovedItem → Type 0
WasQuick v step call moved = moved ≡ [] → v.asked ≡ Some (ask_of step call)
