-- Things, and the plain step on one thing, which private and shared things have in common.
use Rattle.std.specs.Prelude.{ℕ, suc, ◌-◌, ℤ, pos, negsuc, Bool, true, false, ◌==◌, ◌||◌, nat_lt, not, if◌then◌else◌, List, [], ◌∷◌, ◌++◌, length, map, take, drop, replicate, slice_get, slice_set, Option, Some, None}
use Rattle.std.specs.List.{list_any, flat_map}
use Rattle.rb_tree.specs.declared.span.NameId.{NameId}
use Rattle.rb_model.specs.declared.fault.Fault.TheVariants.{IndexTooSmall, ArrayTooLong, NoMethod, LockOwned, UnlockForeign}
use Rattle.rb_model.specs.Values.{Value as Val, Nil, Int, truth, same, or_nil}
use Rattle.rb_model.specs.Acts.{Act, GetField, SetField, At, Put, Push, Unshift, Pop, Shift, DeleteAt, KGet, KHas, KPut, KDelete, Clear, Len, Copy, Lock, Unlock, Reply, Done}
use Rattle.rb_model.specs.Acts as reply
use Rattle.rb_model.specs.Ends.{End, told}

-- A field: its name, its value, and whether a value that is no integer was ever written to it.
pub record Field : Type 0 where
  pub name : NameId
  pub value : Val
  pub wide : Bool

-- A thread: its number, the number of the thread that started it, whether that one has gathered it, and how it ended, once it has.
pub record ThreadState : Type 0 where
  pub number : ℕ
  pub maker : ℕ
  pub gathered : Bool
  pub end : Option End

-- an object of a class with its fields, in the order of their first writes; the elements of an array; the pairs of a hash, in the
-- order in which their keys came; a mutex with the number of the thread that owns it; a thread
pub data Thing : Type 0 where
  Object : (class : ℕ) (fields : List Field) → Thing
  Elements : (values : List Val) → Thing
  Pairs : (pairs : List (Val × Val)) → Thing
  Mutex : (owner : Option ℕ) → Thing
  Thread : (state : ThreadState) → Thing

-- how many elements a list has at most, and how many pairs a hash
abbrev pub max_elements : ℕ
max_elements = 16777216

-- ---- fields

abbrev pub is_integer : Val → Bool
is_integer (Int n) = true
is_integer v = false

-- a field that was never written reads nil
abbrev pub field : NameId → List Field → Val
field name [] = Nil
field name (f ∷ fs) = if f.name.0 == name.0 then f.value else field name fs

-- a write in its place, or behind all others where the name is new
abbrev pub with_field : NameId → Val → List Field → List Field
with_field name v [] = record { name = name; value = v; wide = not (is_integer v) } ∷ []
with_field name v (f ∷ fs) =
    if f.name.0 == name.0 then record { name = f.name; value = v; wide = f.wide || not (is_integer v) } ∷ fs else f ∷ with_field name v fs

-- ---- elements

-- the place that an index means: a negative one counts from the end, and there is none before the first element
abbrev pub index_of : ℕ → ℤ → Option ℕ
index_of count (pos n) = Some n
index_of count (negsuc n) = if nat_lt n count then Some (count - suc n) else None

abbrev pub element : List Val → Option ℕ → Val
element vs None = Nil
element vs (Some n) = or_nil (slice_get vs n)

-- a write behind the last element fills up with nil
abbrev pub with_element : List Val → ℕ → Val → List Val
with_element vs n v = if nat_lt n (length vs) then slice_set vs n v else vs ++ replicate (n - length vs) Nil ++ v ∷ []

abbrev pub put : List Val → Option ℕ → Val → List Val
put vs None v = vs
put vs (Some n) v = if nat_lt n max_elements then with_element vs n v else vs

abbrev pub put_reply : Option ℕ → Reply
put_reply None = reply.Failed IndexTooSmall
put_reply (Some n) = if nat_lt n max_elements then Done else reply.Failed ArrayTooLong

-- a thing with one element more, where it may have one
abbrev pub has_room : ℕ → Bool
has_room count = nat_lt count max_elements

abbrev pub grown_reply : ℕ → Reply
grown_reply count = if has_room count then Done else reply.Failed ArrayTooLong

abbrev pub without_element : List Val → Option ℕ → List Val
without_element vs None = vs
without_element vs (Some n) = take n vs ++ drop (suc n) vs

abbrev pub last_place : ℕ → Option ℕ
last_place count = index_of count (negsuc 0)

-- ---- pairs

abbrev pub key_of : Val × Val → Val
key_of p = p.0

abbrev pub has_key : Val → List (Val × Val) → Bool
has_key k ps = list_any (λ p. same (key_of p) k) ps

abbrev pub value_at : Val → List (Val × Val) → Val
value_at k [] = Nil
value_at k (p ∷ ps) = if same p.0 k then p.1 else value_at k ps

-- a key that is there keeps its place; another comes last
abbrev pub with_pair : Val → Val → List (Val × Val) → List (Val × Val)
with_pair k v [] = (k, v) ∷ []
with_pair k v (p ∷ ps) = if same p.0 k then (p.0, v) ∷ ps else p ∷ with_pair k v ps

-- pairs as a literal gives them, from the left: a key that stands twice keeps its first place and has the last value
abbrev pub gathered_onto : List (Val × Val) → List (Val × Val) → List (Val × Val)
gathered_onto ps [] = ps
gathered_onto ps (p ∷ more) = gathered_onto (with_pair p.0 p.1 ps) more

abbrev pub gathered : List (Val × Val) → List (Val × Val)
gathered ps = gathered_onto [] ps

abbrev pub without_key : Val → List (Val × Val) → List (Val × Val)
without_key k [] = []
without_key k (p ∷ ps) = if same p.0 k then ps else p ∷ without_key k ps

abbrev pub may_put : Val → List (Val × Val) → Bool
may_put k ps = has_key k ps || has_room (length ps)

-- ---- the plain step on data, whoever asks

-- what a thing becomes
abbrev pub becomes : Thing → Act → Thing
becomes (Object c fs) (SetField name v) = Object c (with_field name v fs)
becomes (Elements vs) (Put i v) = Elements (put vs (index_of (length vs) i) v)
becomes (Elements vs) (Push v) = Elements (if has_room (length vs) then vs ++ v ∷ [] else vs)
becomes (Elements vs) (Unshift v) = Elements (if has_room (length vs) then v ∷ vs else vs)
becomes (Elements vs) Pop = Elements (without_element vs (last_place (length vs)))
becomes (Elements vs) Shift = Elements (drop 1 vs)
becomes (Elements vs) (DeleteAt i) = Elements (without_element vs (index_of (length vs) i))
becomes (Elements vs) Clear = Elements []
becomes (Pairs ps) (KPut k v) = Pairs (if may_put k ps then with_pair k v ps else ps)
becomes (Pairs ps) (KDelete k) = Pairs (without_key k ps)
becomes (Pairs ps) Clear = Pairs []
becomes thing act = thing

-- what it answers
abbrev pub gives : Thing → Act → Reply
gives (Object c fs) (GetField name) = reply.Value (field name fs)
gives (Object c fs) (SetField name v) = Done
gives (Elements vs) (At i) = reply.Value (element vs (index_of (length vs) i))
gives (Elements vs) (Put i v) = put_reply (index_of (length vs) i)
gives (Elements vs) (Push v) = grown_reply (length vs)
gives (Elements vs) (Unshift v) = grown_reply (length vs)
gives (Elements vs) Pop = reply.Value (element vs (last_place (length vs)))
gives (Elements vs) Shift = reply.Value (element vs (Some 0))
gives (Elements vs) (DeleteAt i) = reply.Value (element vs (index_of (length vs) i))
gives (Elements vs) Clear = Done
gives (Elements vs) Len = reply.Value (Int (pos (length vs)))
gives (Elements vs) Copy = reply.Elements vs
gives (Pairs ps) (KGet k) = reply.Value (value_at k ps)
gives (Pairs ps) (KHas k) = reply.Value (truth (has_key k ps))
gives (Pairs ps) (KPut k v) = if may_put k ps then Done else reply.Failed ArrayTooLong
gives (Pairs ps) (KDelete k) = reply.Value (value_at k ps)
gives (Pairs ps) Clear = Done
gives (Pairs ps) Len = reply.Value (Int (pos (length ps)))
gives (Pairs ps) Copy = reply.Pairs ps
gives thing act = reply.Failed NoMethod

-- ---- the plain step on what a thread may own, by the thread that asks: a mutex alone looks at it

-- who owns a mutex behind an act of thread t: nobody's becomes the caller's, and the caller gives up its own
abbrev pub owner_behind : ℕ → Act → Option ℕ → Option ℕ
owner_behind t Lock None = Some t
owner_behind t Unlock (Some owner) = if owner == t then None else Some owner
owner_behind t act owner = owner

-- what a mutex gives thread t; where another thread owns it, a Lock waits, and gives nothing yet
abbrev pub mutex_gives : ℕ → Act → Option ℕ → Reply
mutex_gives t Lock None = Done
mutex_gives t Lock (Some owner) = reply.Failed LockOwned
mutex_gives t Unlock None = reply.Failed UnlockForeign
mutex_gives t Unlock (Some owner) = if owner == t then Done else reply.Failed UnlockForeign
mutex_gives t act owner = reply.Failed NoMethod

-- what a thing becomes by an act of thread t
abbrev pub becomes_by : ℕ → Thing → Act → Thing
becomes_by t (Mutex owner) act = Mutex (owner_behind t act owner)
becomes_by t (Object c fs) act = becomes (Object c fs) act
becomes_by t (Elements vs) act = becomes (Elements vs) act
becomes_by t (Pairs ps) act = becomes (Pairs ps) act
becomes_by t (Thread s) act = Thread s

-- what it gives thread t
abbrev pub gives_to : ℕ → Thing → Act → Reply
gives_to t (Mutex owner) act = mutex_gives t act owner
gives_to t (Object c fs) act = gives (Object c fs) act
gives_to t (Elements vs) act = gives (Elements vs) act
gives_to t (Pairs ps) act = gives (Pairs ps) act
gives_to t (Thread s) act = reply.Failed NoMethod

-- ---- what things mention

-- the value that a thread ended with, if it did
abbrev pub ended_with : Option End → List Val
ended_with None = []
ended_with (Some end) = told end

-- the values that a thing mentions, in their order
abbrev pub mentioned : Thing → List Val
mentioned (Object c fs) = map (λ (f : Field). f.value) fs
mentioned (Elements vs) = vs
mentioned (Pairs ps) = flat_map (λ (p : Val × Val). p.0 ∷ p.1 ∷ []) ps
mentioned (Mutex owner) = []
mentioned (Thread s) = ended_with s.end
