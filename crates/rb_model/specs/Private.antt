-- The private store of a thread, and what leaves it where references get into the shared store.
use Rattle.std.specs.Prelude.{◌≡◌, ℕ, ◌==◌, if◌then◌else◌, List, [], ◌∷◌, ◌++◌, length, set, Option, Some, None, slice_get}
use Rattle.std.specs.Option.{option_map}
use Rattle.shape_core.specs.Shape.{Shape, with_shape}
use Rattle.rb_model.specs.declared.value.Id.{Id}
use Rattle.rb_model.specs.Values.{Value as Val, To, Reference}
use Rattle.rb_model.specs.Acts.{Act, Reply}
use Rattle.rb_model.specs.Things.{Thing, mentioned, becomes_by, gives_to}
use Rattle.rb_model.specs.Paths.{shape_made, shape_behind}

-- What a thread made, by serial number: each thing, where it is still private, and the shape of each that is an object. Number 0 is no
-- thing's. Beside them the shapes that its objects have had, each once, in the order in which the first of them came to it.
pub record Private : Type 0 where
  pub thread : ℕ
  pub things : List (Option Thing)
  pub shaped : List (Option Shape)
  pub shapes : List Shape

-- the private store of a thread that has made nothing
abbrev pub bare : ℕ → Private
bare t = record { thread = t; things = None ∷ []; shaped = None ∷ []; shapes = [] }

abbrev pub or_none : {X : Type 0} → Option (Option X) → Option X
or_none None = None
or_none (Some x) = x

-- the private thing of an id
abbrev pub held : Private → Id → Option Thing
held h id = if id.thread == h.thread then or_none (slice_get h.things id.serial) else None

-- the id of the next thing
abbrev pub next_id : Private → Id
next_id h = record { thread = h.thread; serial = length h.things }

-- the shape of the private object of an id
abbrev pub shape_held : Private → Id → Option Shape
shape_held h id = or_none (slice_get h.shaped id.serial)

-- shapes with that of an object, where there is one
abbrev pub with_shape_of : List Shape → Option Shape → List Shape
with_shape_of shapes None = shapes
with_shape_of shapes (Some shape) = with_shape shapes shape

-- with a new thing
abbrev pub entered : Private → Thing → Private
entered h thing = record {
  thread = h.thread;
  things = h.things ++ Some thing ∷ [];
  shaped = h.shaped ++ shape_made thing ∷ [];
  shapes = with_shape_of h.shapes (shape_made thing);
}

-- with another content and another shape of a thing
abbrev pub changed : Private → Id → Thing → Option Shape → Private
changed h id thing shape = record {
  thread = h.thread;
  things = set h.things id.serial (Some thing);
  shaped = set h.shaped id.serial shape;
  shapes = with_shape_of h.shapes shape;
}

-- with what an act makes of a thing
abbrev pub acted : Private → Id → Act → Thing → Private
acted h id act thing = changed h id (becomes_by h.thread thing act) (option_map (shape_behind act) (shape_held h id))

-- without a thing
abbrev pub left : Private → Id → Private
left h id = record { thread = h.thread; things = set h.things id.serial None; shaped = set h.shaped id.serial None; shapes = h.shapes }

-- a reply is what the thing of an id gives
abbrev pub Gives : Private → Id → Act → Reply → Type 0
Gives h id act reply = (thing : Thing) → held h id ≡ Some thing → reply ≡ gives_to h.thread thing act

-- a private store becomes another by an act on the thing of an id
abbrev pub Becomes : Private → Id → Act → Private → Type 0
Becomes h id act new = (thing : Thing) → held h id ≡ Some thing → new ≡ acted h id act thing

-- a thing with its id
pub record Item : Type 0 where
  pub id : Id
  pub thing : Thing

-- From a store, each private thing that the waiting values mention leaves in its turn, then what it mentions waits its turn behind
-- them, until nothing waits: these are the things that move, and the store that is left.
pub data Leaves : Private → List Val → List Item → Private → Type 0 where
  nothing_waits : (h : Private) → Leaves h [] [] h
  no_thing : (h h' : Private) (v : Val) (vs : List Val) (ms : List Item) → ((r : Reference) → v ≡ To r → ⊥) → Leaves h vs ms h' → Leaves h (v ∷ vs) ms h'
  elsewhere : (h h' : Private) (r : Reference) (vs : List Val) (ms : List Item) → held h r.id ≡ None → Leaves h vs ms h' → Leaves h (To r ∷ vs) ms h'
  moves : (h h' : Private) (r : Reference) (thing : Thing) (vs : List Val) (ms : List Item) → held h r.id ≡ Some thing
      → Leaves (left h r.id) (vs ++ mentioned thing) ms h' → Leaves h (To r ∷ vs) (record { id = r.id; thing = thing } ∷ ms) h'
