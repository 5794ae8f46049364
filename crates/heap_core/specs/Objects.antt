-- The rule of an object: its words stand for its fields at the places that its shape names, the first eight in the object, the others in
-- its chunks.
use Rattle.std.specs.Prelude.{◌≡◌, ◌≤◌, ◌<◌, ◌⊎◌, ℕ, suc, ◌+◌, ◌/◌, ◌%◌, Bool, true, false, List, map, Some}
use Rattle.rb_model.specs.declared.value.Id.{Id}
use Rattle.rb_model.specs.Things.{Field, Object}
use Rattle.rb_shared.specs.Lists.{Has, Each}
use Rattle.shape_core.specs.declared.edge.Kind.{Kind}
use Rattle.shape_core.specs.declared.edge.Kind.TheVariants.{IntLoc, AnyLoc}
use Rattle.shape_core.specs.declared.facts.Place.{Place}
use Rattle.shape_core.specs.Path.{Path, find_on, names_on}
use Rattle.typed_location.specs.Word.{tagged}
use Rattle.heap_core.specs.Blocks.{Block, ChunkAt, ShapeAt}
use Rattle.heap_core.specs.Spelling.{SpellsAt}
use Rattle.heap_core.specs.Sizes.{Shaped}
use Rattle.heap_core.specs.Moment.{Moment, word, thing_at, size_at}
use Rattle.heap_core.specs.Locks.{LockStands}

-- ---- the words of an object, from its place on

abbrev pub lock_of : ℕ → ℕ
lock_of at = at + 3

abbrev pub shape_of : ℕ → ℕ
shape_of at = at + 4

abbrev pub chunk_of : ℕ → ℕ
chunk_of at = at + 5

-- the sort of an object, with its class
abbrev pub object_tag : ℕ → ℕ
object_tag class = tagged 1 class

-- ---- places

-- the word is the place of this number
abbrev pub IsPlace : List Block → (at number i : ℕ) → Type 0
IsPlace bs at number i =
    ((number < 8) × (i ≡ at + 6 + number))
    ⊎ ((8 ≤ number) × ((chunk : ℕ) × Has bs (ChunkAt at (number / 8) chunk) × (i ≡ chunk + 1 + number % 8)))

-- a link is 0, or leads to the chunk of this number
abbrev pub LinksChunk : List Block → (at number w : ℕ) → Type 0
LinksChunk bs at number w = (w ≡ 0) ⊎ Has bs (ChunkAt at number w)

abbrev pub ChunkStands : Moment → (object number at : ℕ) → Type 0
ChunkStands m object number at = LinksChunk m.blocks object (suc number) (word m at)

-- ---- fields

abbrev pub holds_any : Kind → Bool
holds_any IntLoc = false
holds_any AnyLoc = true

-- a field stands at the place of its name, of the kind that its writes have made it
abbrev pub FieldStands : Moment → ℕ → Path → Field → Type 0
FieldStands m at path f = (place : Place) × (kind : Kind) × (i : ℕ)
    × (find_on path f.name ≡ Some (place, kind)) × (f.wide ≡ holds_any kind) × IsPlace m.blocks at place.0 i × SpellsAt m.blocks kind (word m i) f.value

-- The rule of an object.
pub record ObjectStands (m : Moment) (id : Id) (at : ℕ) : Type 0 where
  pub class : ℕ
  pub fields : List Field
  pub path : Path
  -- it stands for the thing of its id, whose shape is the one that was counted
  pub thing : thing_at m id ≡ Some (Object class fields)
  pub size : size_at m id ≡ Some (Shaped (record { class = class; path = path }))
  pub names : names_on path ≡ map (λ (f : Field). f.name) fields
  -- sort, class and id never change
  pub tag : word m at ≡ object_tag class
  pub made_by : word m (at + 1) ≡ id.thread
  pub serial : word m (at + 2) ≡ id.serial
  pub lock : LockStands m at (lock_of at)
  -- the shape word names the shape, and each field has its place
  pub shape : Has m.blocks (ShapeAt (record { class = class; path = path }) (word m (shape_of at)))
  pub chunk : LinksChunk m.blocks at 1 (word m (chunk_of at))
  pub stands : Each (FieldStands m at path) fields
