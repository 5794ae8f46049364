-- What is counted of the threads of a store, and what the end of one makes of its things.
use Rattle.std.specs.Prelude.{◌≡◌, ◌==◌, ◌&&◌, ◌||◌, ◌-◌, ℕ, zero, suc, nat_le, Bool, false, not, if◌then◌else◌, List, [], ◌∷◌, ◌++◌, map, slice_get, unwrap_or, Option, Some, None, is_some, true}
use Rattle.rb_model.specs.Acts.{Act, Join}
use Rattle.rb_model.specs.Ends.{End as Ending}
use Rattle.rb_model.specs.Things.{Thing, Mutex, Thread}
use Rattle.rb_model.specs.Private.{Item}
use Rattle.rb_model.specs.Log.{Call, Start}
use Rattle.rb_shared.specs.Store.{Store, threads, ungathered_count, generations, is_there}
use Rattle.thing_store.specs.declared.threads.Row.{Row}

-- ---- mutexes at the end of thread t

abbrev pub is_owned : ℕ → Option ℕ → Bool
is_owned t None = false
is_owned t (Some owner) = owner == t

-- whom a mutex is left to: none, where the thread owns it
abbrev pub freed : ℕ → Option ℕ → Option ℕ
freed t None = None
freed t (Some owner) = if owner == t then None else Some owner

abbrev pub freed_thing : ℕ → Thing → Thing
freed_thing t (Mutex owner) = Mutex (freed t owner)
freed_thing t thing = thing

abbrev pub freed_item : ℕ → Item → Item
freed_item t x = record { id = x.id; thing = freed_thing t x.thing }

abbrev pub is_mutex : Thing → Bool
is_mutex (Mutex owner) = true
is_mutex thing = false

-- which things are mutexes, and where those stand
abbrev pub mutexes_in : Store → List Bool
mutexes_in z = map (λ (x : Item). is_mutex x.thing) z

abbrev pub places_where : ℕ → List Bool → List ℕ
places_where at [] = []
places_where at (b ∷ bs) = if b then at ∷ places_where (suc at) bs else places_where (suc at) bs

abbrev pub mutex_places : Store → List ℕ
mutex_places z = places_where 0 (mutexes_in z)

-- ---- the thing of thread t at its end

-- what the thing at a place is altered to
abbrev pub altered : (Thing → Thing) → Store → ℕ → Store
altered f [] place = []
altered f (x ∷ xs) zero = record { id = x.id; thing = f x.thing } ∷ xs
altered f (x ∷ xs) (suc place) = x ∷ altered f xs place

abbrev pub with_end : ℕ → Ending → Thing → Thing
with_end t how (Thread s) = Thread (if s.number == t then record s { end = Some how } else s)
with_end t how thing = thing

-- the same where it has a place
abbrev pub with_end_in : ℕ → Ending → Store → Option ℕ → Store
with_end_in t how z None = z
with_end_in t how z (Some place) = altered (with_end t how) z place

-- ---- what is counted

-- whether an act of thread t on this thing gathers a thread that was not gathered
abbrev pub gathers : ℕ → Option Thing → Act → Bool
gathers t (Some (Thread s)) Join = is_some s.end && not (s.number == t) && s.maker == t && not s.gathered
gathers t thing act = false

abbrev pub number_in : Thing → Option ℕ
number_in (Thread s) = Some s.number
number_in thing = None

-- the number of each thing, where it is a thread
abbrev pub numbers_in : Store → List (Option ℕ)
numbers_in z = map (λ (x : Item). number_in x.thing) z

abbrev pub row_of : (generation place : ℕ) → Row
row_of generation place = record { generation = generation; place = place }

abbrev pub generations_of : List Row → List ℕ
generations_of rows = map (λ (r : Row). r.generation) rows

abbrev pub places_of : List Row → List ℕ
places_of rows = map (λ (r : Row). r.place) rows

-- the thread of each number stands at its place
abbrev pub ArePlaced : List ℕ → List (Option ℕ) → Type 0
ArePlaced places numbers = (i n : ℕ) → slice_get numbers i ≡ Some (Some n) → slice_get places n ≡ Some i

-- the rows say the generation and the place of each thread of the store
pub record IsCounted (z : Store) (rows : List Row) (ungathered : ℕ) : Type 0 where
  pub generations_are : generations_of rows ≡ generations (0 ∷ []) (threads z)
  pub ungathered_are : ungathered ≡ ungathered_count z
  pub places_are : ArePlaced (places_of rows) (numbers_in z)

-- the generation of thread t by these rows
abbrev pub generation_in : List Row → ℕ → ℕ
generation_in rows t = unwrap_or (slice_get (generations_of rows) t) 0

-- whether thread t may start no other, over so many slots
abbrev pub is_full_by : ℕ → List Row → ℕ → ℕ → Bool
is_full_by slots rows ungathered t = nat_le (slots - 1) ungathered || nat_le (slots - 1) (generation_in rows t)

-- ---- calls

-- a thread that starts is none of the things
abbrev pub StartsNew : Store → Call → Type 0
StartsNew z (Start id body values) = is_there z id ≡ false
StartsNew z call = Unit {0}

-- a store with more things, none of which is a thread
abbrev pub IsLonger : Store → Store → Type 0
IsLonger old new = (more : List Item) × (new ≡ old ++ more) × (threads more ≡ [])
