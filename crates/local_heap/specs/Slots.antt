-- What stands at the places of objects: a word, and beside it the value itself where the word has no room for it.
use Rattle.std.specs.Prelude.{◌≡◌, ℕ, ◌<◌, ◌==◌, if◌then◌else◌, ⊤, List, length, map, slice_index, slice_get, Option}
use Rattle.std.specs.Option.{option_map}
use Rattle.rb_model.specs.declared.value.Sort.TheVariants as sort
use Rattle.rb_model.specs.Values.{Value as Val, Nil, Int, Str, To, Reference, or_nil, plain}
use Rattle.rb_model.specs.Values as val
use Rattle.rb_model.specs.Private.{or_none}
use Rattle.typed_location.specs.declared.general_place.Any.{Any}
use Rattle.typed_location.specs.declared.general_place.Any.TheVariants as any
use Rattle.typed_location.specs.Word.{word_of, Fits}
use Rattle.local_heap.specs.declared.object.Object.{Object}
use Rattle.local_heap.specs.declared.slot.Slot.{Slot}
use Rattle.local_heap.specs.declared.slot.Whose.{Whose}
use Rattle.local_heap.specs.declared.slot.Whose.TheVariants.{Own, Others}
use Rattle.local_heap.specs.Words.{any_of}

-- What the words of a heap can speak of by number alone: the thread of its things, and the class of each object by serial number.
pub record Home : Type 0 where
  pub thread : ℕ
  pub classes : List (Option ℕ)

abbrev pub class_at : Home → ℕ → Option ℕ
class_at home serial = or_none (slice_get home.classes serial)

-- the reference to an object of the heap
abbrev pub to_own : ℕ → ℕ → ℕ → Val
to_own thread serial class = To (record { sort = sort.Object class; id = record { thread = thread; serial = serial } })

abbrev pub own : Home → ℕ → Val
own home serial = or_nil (option_map (to_own home.thread serial) (class_at home serial))

-- a value is a reference to an object of the heap, if it is said to be one
abbrev pub IsOwn : Home → Val → Type 0
IsOwn home v = (thing : Reference) → v ≡ To thing → (own home thing.id.serial ≡ v) × (thing.id.serial < length home.classes)

abbrev pub IsOwnBy : Home → Whose → Val → Type 0
IsOwnBy home Own v = IsOwn home v
IsOwnBy home Others v = ⊤

-- what stands at a place: a word, and the value beside it, nil where there is none
pub record Standing : Type 0 where
  pub word : ℕ
  pub whole : Val

abbrev pub slot_of : Slot → Standing
slot_of slot = record { word = slot.word; whole = plain slot.whole }

-- what is kept whole at a place
abbrev pub whole_at : List Val → ℕ → Val
whole_at row place = or_nil (slice_get row place)

abbrev pub slot_at : Object → ℕ → Standing
slot_at o place = record { word = slice_index o.words.items place; whole = whole_at (map plain o.whole.items) place }

-- a word that speaks of a thing stands for what is beside it, or else for the object of the heap with that number
abbrev pub thing_meaning : Home → Val → ℕ → Val
thing_meaning home Nil serial = own home serial
thing_meaning home whole serial = whole

-- what a word and the value beside it stand for
abbrev pub meaning : Home → Val → Any → Val
meaning home whole any.Nil = Nil
meaning home whole any.False = val.False
meaning home whole any.True = val.True
meaning home whole (any.Small n) = Int n
meaning home whole (any.Sym number) = val.Sym (record { 0 = number })
meaning home whole (any.Text at) = whole
meaning home whole (any.Boxed at) = whole
meaning home whole (any.Thing at) = thing_meaning home whole at

-- where nothing is beside a word that speaks of a thing, the heap has an object of that number
abbrev pub Stands : Home → Val → Any → Type 0
Stands home whole (any.Thing at) = whole ≡ Nil → at < length home.classes
Stands home whole any = ⊤

-- what stands at a place that may hold any value
pub record IsWord (home : Home) (slot : Standing) : Type 0 where
  pub any : Any
  pub fits : Fits any
  pub stands : Stands home slot.whole any
  pub is : word_of any ≡ slot.word

-- what stands there for a value
pub record IsFor (home : Home) (v : Val) (slot : Standing) : Type 0 where
  pub word : IsWord home slot
  pub means : meaning home slot.whole (any_of slot.word) ≡ v

-- a row of values with another one at a place, and one that is like another at each place
abbrev pub Puts : List Val → ℕ → Val → List Val → Type 0
Puts old place v new = (p : ℕ) → whole_at new p ≡ (if p == place then v else whole_at old p)

abbrev pub Alike : List Val → List Val → Type 0
Alike old new = (p : ℕ) → whole_at new p ≡ whole_at old p
