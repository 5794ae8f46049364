-- How many words each entry takes, and what all entries take together.
use Rattle.std.specs.Prelude.{ℕ, ◌-◌, ◌+◌, ◌*◌, ◌/◌, ◌%◌, ℤ, pos, negsuc, ◌==◌, ◌^◌, Bool, true, false, not, ◌&&◌, ◌||◌, nat_lt, if◌then◌else◌, List, [], ◌∷◌, ◌++◌, length, max, Option, Some, None}
use Rattle.std.specs.List.{list_any}
use Rattle.rb_model.specs.declared.value.Id.{Id}
use Rattle.rb_model.specs.Acts.{Act, SetField, Put, Push, Unshift, KPut, Reply, Failed}
use Rattle.rb_model.specs.Ends.{told}
use Rattle.rb_model.specs.Log.{Call, On, Start, End}
use Rattle.rb_model.specs.Private.{Item}
use Rattle.rb_model.specs.Things.{Thing, Field, Object, Elements, Pairs, Mutex, Thread}
use Rattle.rb_model.specs.Values.{Value as Val, Int, Str}
use Rattle.rb_shared.specs.History.{Event, is_read}
use Rattle.rb_shared.specs.Step.{store_behind}
use Rattle.rb_shared.specs.Store.{Store, found, opening}
use Rattle.shape_core.specs.Path.{Path, places_of}
use Rattle.shape_core.specs.Shape.{Shape, root_of, same_shape, with_shape}
use Rattle.heap_core.specs.Places.{object_words, chunk_words, mutex_words, text_words, box_words, shape_words, thread_words, head_words, slot_words, list_region_words, hash_region_words}
use Rattle.heap_core.specs.Sizes.{Size, Shaped, Roomed, Indexed, Sized, Growth, size_of_id, with_size, first_size, moved_path, growth_of, room_for, wants_region, takes_entry, size_behind}

-- ---- values

-- an integer from -2^60 to 2^60 - 1 has its bits in the word that names it
abbrev pub is_small : ℤ → Bool
is_small (pos n) = nat_lt n (2 ^ 60)
is_small (negsuc n) = nat_lt n (2 ^ 60)

-- the words beside the one that names a value
abbrev pub blocks : Val → ℕ
blocks (Str bytes) = text_words bytes
blocks (Int n) = if is_small n then 0 else box_words
blocks v = 0

abbrev pub blocks_of_all : List Val → ℕ
blocks_of_all [] = 0
blocks_of_all (v ∷ vs) = blocks v + blocks_of_all vs

-- ---- shapes

-- the shapes on the way from the root to a shape, itself included
abbrev pub shapes_to : ℕ → Path → List Shape
shapes_to class [] = root_of class ∷ []
shapes_to class (edge ∷ path) = shapes_to class path ++ record { class = class; path = edge ∷ path } ∷ []

abbrev pub is_made : List Shape → Shape → Bool
is_made made shape = list_any (same_shape shape) made

-- those that no earlier entry made
abbrev pub new_among : List Shape → List Shape → ℕ
new_among made [] = 0
new_among made (x ∷ xs) = if is_made made x then new_among made xs else 1 + new_among made xs

abbrev pub with_shapes : List Shape → List Shape → List Shape
with_shapes made [] = made
with_shapes made (x ∷ xs) = with_shapes (with_shape made x) xs

-- the shapes that a size is reached by
abbrev pub shapes_of : Option Size → List Shape
shapes_of (Some (Shaped shape)) = shapes_to shape.class shape.path
shapes_of size = []

-- ---- things that move

-- a field of any kind has a value with blocks of its own; one of the integers alone has none
abbrev pub field_blocks : List Field → ℕ
field_blocks [] = 0
field_blocks (f ∷ fs) = (if f.wide then blocks f.value else 0) + field_blocks fs

abbrev pub chunks_for : ℕ → ℕ
chunks_for fields = (fields - 8 + 7) / 8

abbrev pub pair_blocks : List (Val × Val) → ℕ
pair_blocks [] = 0
pair_blocks (p ∷ ps) = blocks p.0 + blocks p.1 + pair_blocks ps

abbrev pub is_general : Option Size → Bool
is_general (Some (Roomed room dynamic general)) = general
is_general size = false

-- the words of a thing, without its shapes
abbrev pub thing_words : Thing → ℕ
thing_words (Object class fields) = object_words + chunk_words * chunks_for (length fields) + field_blocks fields
thing_words (Elements vs) = head_words + list_region_words (length vs) + (if is_general (first_size (Elements vs)) then blocks_of_all vs else 0)
thing_words (Pairs ps) = head_words + slot_words + hash_region_words (max 8 (length ps)) + pair_blocks ps
thing_words (Mutex owner) = mutex_words
thing_words (Thread s) = thread_words

-- what a thing takes that moves, where these shapes were made by earlier entries
abbrev pub moved_charge : List Shape → Item → ℕ
moved_charge made x = thing_words x.thing + shape_words * new_among made (shapes_of (first_size x.thing))

abbrev pub all_moved : List Shape → List Item → ℕ
all_moved made [] = 0
all_moved made (x ∷ xs) = moved_charge made x + all_moved made xs

-- ---- acts

-- what a new region of a list takes: its words, its state words where it had none, and a box for each integer that has become one of many sorts
abbrev pub region_charge : List Val → (room : ℕ) (dynamic general : Bool) → Growth → ℕ
region_charge vs room dynamic general g =
    if wants_region room dynamic general g
    then list_region_words (room_for room g.count) + (if dynamic then 0 else slot_words) + (if not general && g.brings_other then blocks_of_all vs else 0)
    else 0

-- a place that a path does not have yet: a chunk where the places before fill the last one, and a shape
abbrev pub place_charge : List Shape → Shape → Shape → ℕ
place_charge made old new =
    if same_shape old new then 0
    else shape_words * new_among made (new ∷ []) + (if nat_lt 0 (places_of old.path) && (places_of old.path % 8 == 0) then chunk_words else 0)

abbrev pub pair_charge : List (Val × Val) → (room used : ℕ) → (k v : Val) → ℕ
pair_charge ps room used k v =
    if takes_entry ps k
    then blocks k + blocks v + (if nat_lt used room then 0 else hash_region_words (max 8 (2 * (1 + length ps))))
    else blocks v

-- the blocks of the value that an act puts into a list
abbrev pub put_blocks : Act → ℕ
put_blocks (Put i v) = blocks v
put_blocks (Push v) = blocks v
put_blocks (Unshift v) = blocks v
put_blocks act = 0

abbrev pub act_charge : List Shape → Thing → Size → Act → ℕ
act_charge made (Object class fields) (Shaped shape) (SetField name v) =
    blocks v + place_charge made shape (record { class = shape.class; path = Rattle.rb_model.specs.Paths.path_behind shape.path name v })
act_charge made (Elements vs) (Roomed room dynamic general) act = put_blocks act + region_charge vs room dynamic general (growth_of vs act)
act_charge made (Pairs ps) (Indexed room used) (KPut k v) = pair_charge ps room used k v
act_charge made thing size act = 0

-- where the thing or its size may be missing, which no entry of a history meets
abbrev pub on_charge : List Shape → Option Thing → Option Size → Act → ℕ
on_charge made (Some thing) (Some size) act = act_charge made thing size act
on_charge made thing size act = 0

-- ---- entries

-- What was counted so far: the words that all entries took, the shapes that they made, the size of each thing, and the store behind them.
pub record Tally : Type 0 where
  pub words : ℕ
  pub shapes : List Shape
  pub sizes : List Sized
  pub store : Store

-- the size of a thing, where anything is counted of it
abbrev pub sized_first : Item → Option Size → List Sized → List Sized
sized_first x None more = more
sized_first x (Some size) more = record { id = x.id; size = size } ∷ more

abbrev pub sized_of : List Item → List Sized
sized_of [] = []
sized_of (x ∷ xs) = sized_first x (first_size x.thing) (sized_of xs)

abbrev pub shapes_moved : List Item → List Shape
shapes_moved [] = []
shapes_moved (x ∷ xs) = shapes_of (first_size x.thing) ++ shapes_moved xs

abbrev pub is_fault : Reply → Bool
is_fault (Failed fault) = true
is_fault r = false

-- a read, and a call that is answered by a fault, take nothing but what moves with them
abbrev pub takes_nothing : Call → Reply → Bool
takes_nothing call r = is_fault r || is_read call

-- what any other call takes; of shapes, those that no earlier entry made
abbrev pub call_charge : List Shape → Tally → Call → ℕ
call_charge made t (On thing act) = on_charge made (found t.store thing.id) (size_of_id t.sizes thing.id) act
call_charge made t (Start id body values) = thread_words
call_charge made t (End how) = blocks_of_all (told how)
call_charge made t call = 0

abbrev pub resized : List Sized → Id → Option Thing → Option Size → Act → List Sized
resized sizes id (Some thing) (Some size) act = with_size sizes id (size_behind thing act size)
resized sizes id thing size act = sizes

abbrev pub sizes_behind : Tally → Call → List Sized
sizes_behind t (On thing act) = resized t.sizes thing.id (found t.store thing.id) (size_of_id t.sizes thing.id) act
sizes_behind t call = t.sizes

abbrev pub receiver_size : Call → List Sized → Option Size
receiver_size (On thing act) sizes = size_of_id sizes thing.id
receiver_size call sizes = None

-- with the things that move
abbrev pub tally_moved : Tally → List Item → Tally
tally_moved t moved = record {
  words = t.words + all_moved t.shapes moved;
  shapes = with_shapes t.shapes (shapes_moved moved);
  sizes = t.sizes ++ sized_of moved;
  store = t.store ++ moved;
}

-- and with the call
abbrev pub tally_call : ℕ → List Shape → Tally → ℕ → Call → Reply → Tally
tally_call slots made t thread call r = record {
  words = t.words + (if takes_nothing call r then 0 else call_charge made t call);
  shapes = if takes_nothing call r then t.shapes else with_shapes t.shapes (shapes_of (receiver_size call (sizes_behind t call)));
  sizes = if takes_nothing call r then t.sizes else sizes_behind t call;
  store = store_behind slots t.store thread call;
}

abbrev pub tally_entry : ℕ → Tally → Event → Tally
tally_entry slots t e = tally_call slots t.shapes (tally_moved t e.entry.moved) e.thread e.entry.call e.entry.reply

abbrev pub tally_on : ℕ → Tally → List Event → Tally
tally_on slots t [] = t
tally_on slots t (e ∷ es) = tally_on slots (tally_entry slots t e) es

-- the globals with their root and their shared shape are there at the opening
abbrev pub globals_shape : Shape
globals_shape = record { class = 4294967295; path = moved_path [] }

abbrev pub opening_tally : Tally
opening_tally = record {
  words = 0;
  shapes = shapes_to 4294967295 (moved_path []);
  sizes = record { id = Rattle.rb_shared.specs.Store.globals; size = Shaped globals_shape } ∷ [];
  store = opening;
}

abbrev pub tally_of : ℕ → List Event → Tally
tally_of slots events = tally_on slots opening_tally events

-- the words that all entries took
abbrev pub budget : ℕ → List Event → ℕ
budget slots events = (tally_of slots events).words
