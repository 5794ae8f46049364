-- The private things as a heap keeps them.
use Rattle.std.specs.Prelude.{◌≡◌, ℕ, Bool, false, ◌<◌, ◌==◌, if◌then◌else◌, slice_get, List, map, length, Option, Some, None, Result, IfSome, IsErr, IsOkAnd}
use Rattle.std.specs.List.{AllByRecursion}
use Rattle.rb_tree.specs.declared.span.NameId.{NameId}
use Rattle.rb_model.specs.declared.value.Id.{Id}
use Rattle.rb_model.specs.Values.{Value as Val}
use Rattle.rb_model.specs.declared.act.Reply.{Reply as Answered}
use Rattle.rb_model.specs.declared.fault.Fault.TheVariants.{NoMethod}
use Rattle.rb_model.specs.Acts.{Act, SetField, Failed}
use Rattle.rb_model.specs.Doing.{said}
use Rattle.rb_model.specs.Things.{Thing, Field, becomes, mutex_gives, owner_behind}
use Rattle.rb_model.specs.Things as thing
use Rattle.rb_model.specs.Paths.{shape_behind}
use Rattle.rb_model.specs.Private.{Private}
use Rattle.shape_core.specs.Path.{IsPath, places_of}
use Rattle.shape_core.specs.Shape.{Shape, Gains, path_at, shape_at}
use Rattle.local_heap.specs.declared.object.Object.{Object}
use Rattle.local_heap.specs.declared.slot.Whose.{Whose}
use Rattle.local_heap.specs.declared.cells.Cell.{Cell}
use Rattle.local_heap.specs.declared.cells.Cell.TheVariants as cell
use Rattle.local_heap.specs.declared.cells.Cells.{Cells}
use Rattle.local_heap.specs.Contents.{Does, DoesTake, DoesWrite, listed}
use Rattle.local_heap.specs.Memory.{at_once}
use Rattle.local_heap.specs.Limits.{IsWithin}
use Rattle.local_heap.specs.Slots.{Home, IsOwnBy, slot_at}
use Rattle.local_heap.specs.Fields.{AreWords, Wrote, fields_of}

-- the shape of an object
abbrev pub shape_in : List Shape → Object → Shape
shape_in shapes o = shape_at shapes o.shape

-- its fields
abbrev pub fields_in : List Shape → Home → Object → List Field
fields_in shapes home o = fields_of home (path_at shapes o.shape) (slot_at o)

-- an object over its shape store: a word for each place
pub record IsObject (shapes : List Shape) (o : Object) : Type 0 where
  pub known : o.shape.0 < length shapes
  pub valid : IsPath (path_at shapes o.shape)
  pub long : length o.words.items ≡ places_of (path_at shapes o.shape)

-- whose words are those of a heap
abbrev pub IsSound : List Shape → Home → Object → Type 0
IsSound shapes home o = AreWords home (path_at shapes o.shape) (slot_at o)

-- an object, before and behind the write of a value to a field, in whatever heap
pub record Written (shapes : List Shape) (o : Object) (name : NameId) (v : Val) (whose : Whose) (shapes' : List Shape) (o' : Object) : Type 0 where
  pub object : IsObject shapes' o'
  pub shape : shape_in shapes' o' ≡ shape_behind (SetField name v) (shape_in shapes o)
  pub gains : Gains shapes (shape_in shapes' o') shapes'
  pub wrote : (home : Home) → IsSound shapes home o → IsOwnBy home whose v
      → Wrote home (path_at shapes o.shape) (slot_at o) name v (path_at shapes' o'.shape) (slot_at o')

-- an object and the shapes of its store, which a failed write left as they were
pub record Unwritten (shapes : List Shape) (o : Object) (shapes' : List Shape) (o' : Object) : Type 0 where
  pub shapes_stay : shapes' ≡ shapes
  pub shape : o'.shape ≡ o.shape
  pub words : o'.words.items ≡ o.words.items
  pub whole : (p : ℕ) → p < length o.words.items → slot_at o' p ≡ slot_at o p

-- the thing that an object is
abbrev pub thing_in : List Shape → Home → Object → Thing
thing_in shapes home o = thing.Object (shape_in shapes o).class (fields_in shapes home o)

-- an object, before and behind an act
pub record Acted (shapes : List Shape) (home : Home) (o : Object) (act : Act) (shapes' : List Shape) (o' : Object) : Type 0 where
  pub object : IsObject shapes' o'
  pub sound : IsSound shapes' home o'
  pub shape : shape_in shapes' o' ≡ shape_behind act (shape_in shapes o)
  pub thing : thing_in shapes' home o' ≡ becomes (thing_in shapes home o) act
  pub gains : Gains shapes (shape_in shapes' o') shapes'

-- the thing that stands by itself in a cell: a list, a hash or a mutex
abbrev pub contents : Cell → Option Thing
contents (cell.Empty k) = None
contents (cell.Object o) = None
contents (cell.List list) = Some (listed list)
contents (cell.Pairs pairs) = Some (thing.Pairs pairs)
contents (cell.Mutex owner) = Some (thing.Mutex owner)

-- there is one, and it is no longer than it may be, nor owned by another than thread t
abbrev pub IsContents : ℕ → Cell → Type 0
IsContents t (cell.Empty k) = ⊥
IsContents t (cell.Object o) = ⊥
IsContents t (cell.List list) = IsWithin t (listed list)
IsContents t (cell.Pairs pairs) = IsWithin t (thing.Pairs pairs)
IsContents t (cell.Mutex owner) = IsWithin t (thing.Mutex owner)

-- what an act that is not of a field did to what a cell has
abbrev pub DoesWithin : {E : Type 0} → Thing → Act → Result Answered E → Cell → Type 0
DoesWithin thing act result now = (later : Thing) × (contents now ≡ Some later) × Does thing act result later

-- the same of any cell, where thread t asks
abbrev pub CellDoes : {E : Type 0} → ℕ → Cell → Act → Result Answered E → Cell → Type 0
CellDoes t (cell.Empty k) act result now = (now ≡ cell.Empty k) × IsErr result
CellDoes t (cell.Object o) act result now = (now ≡ cell.Object o) × IsOkAnd result (λ reply. said reply ≡ Failed NoMethod)
CellDoes t (cell.List list) act result now = DoesWithin (listed list) act result now
CellDoes t (cell.Pairs pairs) act result now = DoesWithin (thing.Pairs pairs) act result now
CellDoes t (cell.Mutex owner) act result now = (now ≡ cell.Mutex (owner_behind t act owner)) × IsOkAnd result (λ reply. said reply ≡ mutex_gives t act owner)

-- Whether a value was written to the list that a cell has, and what the cell then has. Where it has no list, it was not.
abbrev pub CellWrites : Bool → Cell → (Val → Act) → Option Val → Cell → Type 0
CellWrites done (cell.Empty k) act value now = (now ≡ cell.Empty k) × (done ≡ false)
CellWrites done (cell.Object o) act value now = (now ≡ cell.Object o) × (done ≡ false)
CellWrites done (cell.List list) act value now = (later : Thing) × (contents now ≡ Some later) × DoesWrite done (listed list) act value later
CellWrites done (cell.Pairs pairs) act value now = (now ≡ cell.Pairs pairs) × (done ≡ false)
CellWrites done (cell.Mutex owner) act value now = (now ≡ cell.Mutex owner) × (done ≡ false)

-- what a cell has, where a value was taken out of its list
abbrev pub CellTakes : Option Val → Cell → Act → Cell → Type 0
CellTakes value (cell.Empty k) act now = (now ≡ cell.Empty k) × (value ≡ None)
CellTakes value (cell.Object o) act now = (now ≡ cell.Object o) × (value ≡ None)
CellTakes value (cell.List list) act now = (later : Thing) × (contents now ≡ Some later) × DoesTake value (listed list) act later
CellTakes value (cell.Pairs pairs) act now = (now ≡ cell.Pairs pairs) × (value ≡ None)
CellTakes value (cell.Mutex owner) act now = (now ≡ cell.Mutex owner) × (value ≡ None)

-- what a cell has is no thing to which an act is done at once
abbrev pub CellRefuses : Cell → Act → Type 0
CellRefuses cell act = IfSome (contents cell) (λ thing. at_once thing act ≡ false)

abbrev pub still : List Shape → Home → Cell → Option Thing
still shapes home (cell.Empty k) = None
still shapes home (cell.Object o) = Some (thing_in shapes home o)
still shapes home (cell.List list) = Some (listed list)
still shapes home (cell.Pairs pairs) = Some (thing.Pairs pairs)
still shapes home (cell.Mutex owner) = Some (thing.Mutex owner)

abbrev pub shaped_in : List Shape → Cell → Option Shape
shaped_in shapes (cell.Empty k) = None
shaped_in shapes (cell.Object o) = Some (shape_in shapes o)
shaped_in shapes (cell.List list) = None
shaped_in shapes (cell.Pairs pairs) = None
shaped_in shapes (cell.Mutex owner) = None

-- what stands at an id
abbrev pub cell_at : ℕ → List Cell → Id → Option Cell
cell_at thread cells id = if id.thread == thread then slice_get cells id.serial else None

-- the class of an object, also of one that left
abbrev pub class_in : List Shape → Cell → Option ℕ
class_in shapes (cell.Empty class) = class
class_in shapes (cell.Object o) = Some (shape_in shapes o).class
class_in shapes (cell.List list) = None
class_in shapes (cell.Pairs pairs) = None
class_in shapes (cell.Mutex owner) = None

abbrev pub home_by : ℕ → List Shape → List Cell → Home
home_by thread shapes cells = record { thread = thread; classes = map (class_in shapes) cells }

abbrev pub home_of : List Shape → Cells → Home
home_of shapes cells = home_by cells.thread shapes cells.items.items

abbrev pub IsKnown : List Shape → Cell → Type 0
IsKnown shapes (cell.Empty k) = Unit {0}
IsKnown shapes (cell.Object o) = IsObject shapes o
IsKnown shapes (cell.List list) = Unit {0}
IsKnown shapes (cell.Pairs pairs) = Unit {0}
IsKnown shapes (cell.Mutex owner) = Unit {0}

abbrev pub AreKnown : List Shape → List Cell → Type 0
AreKnown shapes cells = AllByRecursion (IsKnown shapes) cells

abbrev pub IsCell : List Shape → Home → Cell → Type 0
IsCell shapes home (cell.Empty k) = Unit {0}
IsCell shapes home (cell.Object o) = IsSound shapes home o
IsCell shapes home (cell.List list) = IsWithin home.thread (listed list)
IsCell shapes home (cell.Pairs pairs) = IsWithin home.thread (thing.Pairs pairs)
IsCell shapes home (cell.Mutex owner) = IsWithin home.thread (thing.Mutex owner)

abbrev pub AreSound : List Shape → Home → List Cell → Type 0
AreSound shapes home cells = AllByRecursion (IsCell shapes home) cells

-- what a heap is
abbrev pub private_by : ℕ → List Shape → Home → List Cell → Private
private_by thread shapes home cells = record {
  thread = thread;
  things = map (still shapes home) cells;
  shaped = map (shaped_in shapes) cells;
  shapes = shapes;
}

abbrev pub private_of : List Shape → Cells → Private
private_of shapes cells = private_by cells.thread shapes (home_of shapes cells) cells.items.items

abbrev pub AreCells : List Shape → Cells → Type 0
AreCells shapes cells = AreKnown shapes cells.items.items × AreSound shapes (home_of shapes cells) cells.items.items
