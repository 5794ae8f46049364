-- What is counted of each shared thing, and how an entry changes it: the shape of an object, the room of a list and of a hash.
use Rattle.std.specs.Prelude.{ℕ, suc, ◌*◌, Bool, true, false, not, ◌||◌, ◌&&◌, nat_le, nat_lt, if◌then◌else◌, List, [], ◌∷◌, length, max, Option, Some, None}
use Rattle.std.specs.List.{list_any}
use Rattle.rb_model.specs.declared.value.Id.{Id}
use Rattle.rb_model.specs.Acts.{Act, Put, Push, Unshift, Pop, Shift, DeleteAt, KPut, Clear}
use Rattle.rb_model.specs.Paths.{shape_behind}
use Rattle.rb_model.specs.Things.{Thing, Field, Object, Elements, Pairs, index_of, is_integer, has_key, has_room, max_elements}
use Rattle.rb_model.specs.Values.{Value as Val, same_id}
use Rattle.shape_core.specs.declared.edge.Kind.TheVariants.{IntLoc, AnyLoc}
use Rattle.shape_core.specs.declared.edge.Edge.TheVariants.{Add, Share}
use Rattle.shape_core.specs.Path.{Path}
use Rattle.shape_core.specs.Shape.{Shape}

-- The shape of an object. The room of a list, whether it has state words of its own (is dynamic), and whether it holds values of all sorts
-- (is general). The room of a hash, and how many of its entries are used.
pub data Size : Type 0 where
  Shaped : (shape : Shape) → Size
  Roomed : (room : ℕ) (dynamic general : Bool) → Size
  Indexed : (room used : ℕ) → Size

pub record Sized : Type 0 where
  pub id : Id
  pub size : Size

abbrev pub size_of_id : List Sized → Id → Option Size
size_of_id [] id = None
size_of_id (x ∷ xs) id = if same_id x.id id then Some x.size else size_of_id xs id

-- with another size under an id
abbrev pub with_size : List Sized → Id → Size → List Sized
with_size [] id size = []
with_size (x ∷ xs) id size = if same_id x.id id then record { id = x.id; size = size } ∷ xs else x ∷ with_size xs id size

-- ---- a thing that moves

-- one Add for each field, in their order
abbrev pub path_onto : Path → List Field → Path
path_onto path [] = path
path_onto path (f ∷ fs) = path_onto (Add f.name (if f.wide then AnyLoc else IntLoc) ∷ path) fs

abbrev pub moved_path : List Field → Path
moved_path fs = Share ∷ path_onto [] fs

abbrev pub all_integers : List Val → Bool
all_integers vs = not (list_any (λ v. not (is_integer v)) vs)

-- what is counted of a thing that has just moved, where anything is
abbrev pub first_size : Thing → Option Size
first_size (Object class fields) = Some (Shaped (record { class = class; path = moved_path fields }))
first_size (Elements vs) = Some (Roomed (length vs) false (not (all_integers vs)))
first_size (Pairs ps) = Some (Indexed (max 8 (length ps)) (length ps))
first_size thing = None

-- ---- a list

-- the room where so many elements are wanted
abbrev pub room_for : ℕ → ℕ → ℕ
room_for room count = if nat_le count room then room else max 8 (max (2 * room) count)

-- What an act means to do to a list: how many elements there are then, whether it can change how many, and whether one is no integer
-- that was put in by it.
pub record Growth : Type 0 where
  pub count : ℕ
  pub may_change : Bool
  pub brings_other : Bool

abbrev pub put_growth : List Val → Option ℕ → Val → Growth
put_growth vs None v = record { count = length vs; may_change = false; brings_other = false }
put_growth vs (Some i) v =
    if nat_lt i (length vs)
    then record { count = length vs; may_change = false; brings_other = not (is_integer v) }
    else if nat_lt i max_elements
    then record { count = suc i; may_change = true; brings_other = not (is_integer v) || nat_lt (length vs) i }
    else record { count = length vs; may_change = false; brings_other = false }

abbrev pub grown : List Val → Val → Growth
grown vs v =
    if has_room (length vs)
    then record { count = suc (length vs); may_change = true; brings_other = not (is_integer v) }
    else record { count = length vs; may_change = false; brings_other = false }

abbrev pub shrunk : List Val → Growth
shrunk vs = record { count = length vs; may_change = true; brings_other = false }

abbrev pub growth_of : List Val → Act → Growth
growth_of vs (Put i v) = put_growth vs (index_of (length vs) i) v
growth_of vs (Push v) = grown vs v
growth_of vs (Unshift v) = grown vs v
growth_of vs Pop = shrunk vs
growth_of vs Shift = shrunk vs
growth_of vs (DeleteAt i) = shrunk vs
growth_of vs Clear = shrunk vs
growth_of vs act = record { count = length vs; may_change = false; brings_other = false }

-- a list gets a new region where it has too little room, where a first element comes that is no integer, and where it has no state words
-- yet and the act can change its length
abbrev pub wants_region : (room : ℕ) (dynamic general : Bool) → Growth → Bool
wants_region room dynamic general g = nat_lt room g.count || (not general && g.brings_other) || (not dynamic && g.may_change)

abbrev pub regrown : (room : ℕ) (dynamic general : Bool) → Growth → Size
regrown room dynamic general g = Roomed (room_for room g.count) (dynamic || wants_region room dynamic general g) (general || g.brings_other)

-- ---- a hash

-- a key that is not there takes one more entry; where none is left the pairs move to a region of twice as many
abbrev pub with_entry_used : (room used pairs : ℕ) → Size
with_entry_used room used pairs = if nat_lt used room then Indexed room (suc used) else Indexed (max 8 (2 * suc pairs)) (suc pairs)

abbrev pub takes_entry : List (Val × Val) → Val → Bool
takes_entry ps k = not (has_key k ps) && has_room (length ps)

-- ---- an act

-- what is counted of a thing behind an act on it
abbrev pub size_behind : Thing → Act → Size → Size
size_behind (Object class fields) act (Shaped shape) = Shaped (shape_behind act shape)
size_behind (Elements vs) act (Roomed room dynamic general) = regrown room dynamic general (growth_of vs act)
size_behind (Pairs ps) (KPut k v) (Indexed room used) = if takes_entry ps k then with_entry_used room used (length ps) else Indexed room used
size_behind (Pairs ps) Clear (Indexed room used) = Indexed room 0
size_behind thing act size = size
