-- Things that move, and the references that values, calls and things of the code hold.
use Rattle.std.specs.Prelude.{◌≡◌, ℕ, List, [], ◌∷◌, ◌++◌, map, slice_get, slice_set, Option, Some, None}
use Rattle.std.specs.List.{flat_map}
use Rattle.rb_model.specs.declared.value.Ref.{Ref}
use Rattle.rb_model.specs.declared.value.Sort.{Sort}
use Rattle.rb_model.specs.declared.value.Sort.TheVariants as sort
use Rattle.rb_model.specs.declared.value.Value.{Value}
use Rattle.rb_model.specs.declared.value.Value.TheVariants as value
use Rattle.rb_model.specs.declared.act.Act.{Act}
use Rattle.rb_model.specs.declared.act.Act.TheVariants as act
use Rattle.rb_model.specs.declared.act.Reply.{Reply}
use Rattle.rb_model.specs.declared.act.Reply.TheVariants as reply
use Rattle.rb_model.specs.declared.call.Call.{Call}
use Rattle.rb_model.specs.declared.call.Call.TheVariants as call
use Rattle.rb_model.specs.declared.call.End.{End}
use Rattle.rb_model.specs.declared.call.End.TheVariants as end
use Rattle.rb_model.specs.declared.thing.Field.{Field}
use Rattle.rb_model.specs.declared.thing.Thing.{Thing}
use Rattle.rb_model.specs.declared.thing.Thing.TheVariants as thing
use Rattle.rb_model.specs.declared.moved.MovedItem.{MovedItem}
use Rattle.rb_model.specs.Private.{Item}
use Rattle.rb_model.specs.Doing.{seen}

-- ---- what moves

-- a thing that moves, with its id; where it is laid is left out
abbrev pub item_of : MovedItem → Item
item_of m = record { id = m.id; thing = seen m.thing }

abbrev pub items_of : List MovedItem → List Item
items_of ms = map item_of ms

-- things of which the one at a number is laid at a place
abbrev pub Places : List MovedItem → ℕ → ℕ → List MovedItem → Type 0
Places old n at new = (m : MovedItem) → slice_get old n ≡ Some m → new ≡ slice_set old n (record m { at = at })

-- what a reference to a thing of the code says that it is
abbrev pub sort_of_thing : Thing → Sort
sort_of_thing (thing.Object class fields) = sort.Object class
sort_of_thing (thing.Elements values) = sort.List
sort_of_thing (thing.Pairs pairs) = sort.Pairs
sort_of_thing (thing.Mutex owner) = sort.Mutex
sort_of_thing (thing.Thread state) = sort.Thread

-- a reference to a thing that moved, with its place
abbrev pub ref_of : MovedItem → Ref
ref_of m = record { sort = sort_of_thing m.thing; id = m.id; at = m.at }

-- ---- the references that are held

abbrev pub refs_in : Value → List Ref
refs_in (value.Ref r) = r ∷ []
refs_in v = []

abbrev pub refs_in_all : List Value → List Ref
refs_in_all vs = flat_map refs_in vs

abbrev pub refs_in_pairs : List (Value × Value) → List Ref
refs_in_pairs ps = flat_map (λ (p : Value × Value). refs_in p.0 ++ refs_in p.1) ps

-- those of the value that an end tells
abbrev pub refs_in_end : End → List Ref
refs_in_end (end.Value v) = refs_in v
refs_in_end how = []

-- those that an act hands over
abbrev pub refs_in_act : Act → List Ref
refs_in_act (act.SetField name v) = refs_in v
refs_in_act (act.Put i v) = refs_in v
refs_in_act (act.Push v) = refs_in v
refs_in_act (act.Unshift v) = refs_in v
refs_in_act (act.KGet k) = refs_in k
refs_in_act (act.KHas k) = refs_in k
refs_in_act (act.KPut k v) = refs_in k ++ refs_in v
refs_in_act (act.KDelete k) = refs_in k
refs_in_act a = []

-- the receiver of a call, if it has one
abbrev pub receiver : Call → Option Ref
receiver (call.On r a) = Some r
receiver (call.Gather r) = Some r
receiver c = None

-- the references in a call beside its receiver
abbrev pub refs_in_call : Call → List Ref
refs_in_call (call.On r a) = refs_in_act a
refs_in_call (call.Start id body values) = refs_in_all values.items
refs_in_call (call.End how) = refs_in_end how
refs_in_call c = []

-- those that a reply tells
abbrev pub refs_in_reply : Reply → List Ref
refs_in_reply (reply.Value v) = refs_in v
refs_in_reply (reply.Elements vs) = refs_in_all vs.items
refs_in_reply (reply.Pairs ps) = refs_in_pairs ps.items
refs_in_reply (reply.Started number thread) = thread ∷ []
refs_in_reply (reply.Ended how) = refs_in_end how
refs_in_reply r = []

-- those that a thing mentions; a thread never moves
abbrev pub refs_in_thing : Thing → List Ref
refs_in_thing (thing.Object class fields) = flat_map (λ (f : Field). refs_in f.value) fields.items
refs_in_thing (thing.Elements values) = refs_in_all values.items
refs_in_thing (thing.Pairs pairs) = refs_in_pairs pairs.items
refs_in_thing t = []

-- those that the things that move mention
abbrev pub refs_in_moved : List MovedItem → List Ref
refs_in_moved ms = flat_map (λ (m : MovedItem). refs_in_thing m.thing) ms
