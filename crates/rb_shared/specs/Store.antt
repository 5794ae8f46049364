-- The things that threads share.
use Rattle.std.specs.Prelude.{ℕ, suc, ◌-◌, Bool, not, ◌||◌, nat_le, if◌then◌else◌, List, [], ◌∷◌, ◌++◌, count_by, slice_get, unwrap_or, Option, Some, None, is_some}
use Rattle.std.specs.List.{flat_map}
use Rattle.rb_model.specs.declared.value.Id.{Id}
use Rattle.rb_model.specs.Values.{same_id}
use Rattle.rb_model.specs.Things.{Thing, ThreadState, Object, Thread}
use Rattle.rb_model.specs.Private.{Item}

-- A store: each thing with its id, in the order in which they came. No two have one id.
abbrev pub Store : Type 0
Store = List Item

abbrev pub globals : Id
globals = record { thread = 0; serial = 0 }

-- at the start there are the global variables alone: an object whose class is none of a script's
abbrev pub opening : Store
opening = record { id = globals; thing = Object 4294967295 [] } ∷ []

-- the thing of an id
abbrev pub found : Store → Id → Option Thing
found [] id = None
found (x ∷ xs) id = if same_id x.id id then Some x.thing else found xs id

abbrev pub is_there : Store → Id → Bool
is_there z id = is_some (found z id)

-- with another thing under an id
abbrev pub with_thing : Store → Id → Thing → Store
with_thing [] id thing = []
with_thing (x ∷ xs) id thing = if same_id x.id id then record { id = x.id; thing = thing } ∷ xs else x ∷ with_thing xs id thing

-- ---- threads

abbrev pub thread_in : Thing → List ThreadState
thread_in (Thread s) = s ∷ []
thread_in thing = []

-- the threads that were started, in the order of their numbers; the main thread has no thing
abbrev pub threads : Store → List ThreadState
threads z = flat_map (λ (x : Item). thread_in x.thing) z

-- how many of them were not gathered yet
abbrev pub ungathered_count : Store → ℕ
ungathered_count z = count_by (λ (s : ThreadState). not s.gathered) (threads z)

-- the generations of threads by number: 0 for the main thread, and one more than its maker's for any other
abbrev pub generations : List ℕ → List ThreadState → List ℕ
generations known [] = known
generations known (s ∷ ss) = generations (known ++ suc (unwrap_or (slice_get known s.maker) 0) ∷ []) ss

abbrev pub generation_of : Store → ℕ → ℕ
generation_of z t = unwrap_or (slice_get (generations (0 ∷ []) (threads z)) t) 0

-- whether thread t may start no other: over so many slots for threads, as many as there are but the main thread's are taken, or it is so
-- deep among threads that start threads
abbrev pub is_full : ℕ → Store → ℕ → Bool
is_full slots z t = nat_le (slots - 1) (ungathered_count z) || nat_le (slots - 1) (generation_of z t)
