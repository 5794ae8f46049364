-- What leaves a private store.
use Rattle.std.specs.Prelude.{◌≡◌, ◌⊎◌, ℕ, List, [], ◌∷◌, ◌++◌, map, Option, Some, None}
use Rattle.std.specs.List.{flat_map}
use Rattle.rb_model.specs.declared.value.Id.{Id}
use Rattle.rb_model.specs.declared.value.Ref.{Ref}
use Rattle.rb_model.specs.Immediates.{reference}
use Rattle.rb_model.specs.Private.{Private, Item, Leaves, held, left}
use Rattle.rb_model.specs.declared.moved.MovedItem.{MovedItem}
use Rattle.rb_model.specs.declared.thing.Field.{Field as Told}
use Rattle.rb_model.specs.Moving.{refs_in}
use Rattle.rb_model.specs.Things.{Thing, Field, Thread, mentioned}
use Rattle.rb_model.specs.Values.{Value as Val, To}
use Rattle.rb_shared.specs.Lists.{Each}

-- a store without these things
abbrev pub without : Private → List Item → Private
without h [] = h
without h (m ∷ ms) = without (left h m.id) ms

-- each of them is private in its turn, with this content
abbrev pub ArePrivate : Private → List Item → Type 0
ArePrivate h [] = Unit {0}
ArePrivate h (m ∷ ms) = (held h m.id ≡ Some m.thing) × ArePrivate (left h m.id) ms

-- the serial numbers of things, and their ids
abbrev pub serials : List Item → List ℕ
serials ms = map (λ (m : Item). m.id.serial) ms

abbrev pub ids_of : List MovedItem → List Id
ids_of ms = map (λ (m : MovedItem). m.id) ms

-- the references among values
abbrev pub things_in : List Val → List Val
things_in [] = []
things_in (To r ∷ vs) = To r ∷ things_in vs
things_in (v ∷ vs) = things_in vs

abbrev pub named : List Ref → List Val
named rs = map (λ r. To (reference r)) rs

-- the values of fields, and the keys and values of pairs
abbrev pub values_of : List Field → List Val
values_of fs = map (λ (f : Field). f.value) fs

abbrev pub sides_of : List (Val × Val) → List Val
sides_of ps = flat_map (λ (p : Val × Val). p.0 ∷ p.1 ∷ []) ps

-- the references that fields of the code hold
abbrev pub refs_in_fields : List Told → List Ref
refs_in_fields fs = flat_map (λ (f : Told). refs_in f.value) fs

-- what a thread made is no thread
abbrev pub IsNoThread : Thing → Type 0
IsNoThread (Thread s) = ⊥
IsNoThread thing = Unit {0}

-- A reference that waited is looked at: a private thing moves, and the references that it mentions wait behind the others.
abbrev pub Looked : Option Thing → Id → List Item → List Item → List Val → List Val → Type 0
Looked None id ms ms' vs vs' = (ms' ≡ ms) × (vs' ≡ vs)
Looked (Some thing) id ms ms' vs vs' = (ms' ≡ ms ++ record { id = id; thing = thing } ∷ []) × (vs' ≡ vs ++ things_in (mentioned thing))

-- the first of those that wait is taken, where there is one
abbrev pub Popped : Option Ref → List Ref → List Ref → Type 0
Popped None old new = old ≡ []
Popped (Some r) old new = old ≡ r ∷ new

-- whatever completes what waits completes the whole
abbrev pub Rest : Private → List Val → List Item → List Val → Type 0
Rest h whole ms vs = (more : List Item) (h' : Private) → Leaves (without h ms) vs more h' → Leaves h whole (ms ++ more) h'

-- ---- what the laws say

-- something leaves
abbrev pub SomeLeave : Private → List Val → Type 0
SomeLeave h vs = (ms : List Item) × (h' : Private) × Leaves h vs ms h'

-- a value mentions nothing private
abbrev pub IsOut : Private → Val → Type 0
IsOut h (To r) = held h r.id ≡ None
IsOut h v = Unit {0}

abbrev pub AllOut : Private → List Val → Type 0
AllOut h [] = Unit {0}
AllOut h (v ∷ vs) = IsOut h v × AllOut h vs

-- things are not private, and mention nothing that is
abbrev pub ItemsOut : Private → List Item → Type 0
ItemsOut h [] = Unit {0}
ItemsOut h (m ∷ ms) = (held h m.id ≡ None) × AllOut h (mentioned m.thing) × ItemsOut h ms

-- one of these things has this id
abbrev pub IsNamed : List Item → Id → Type 0
IsNamed [] id = ⊥
IsNamed (m ∷ ms) id = (m.id ≡ id) ⊎ IsNamed ms id

-- a value mentions nothing private, or one of the things that leave
abbrev pub IsEnd : Private → List Item → Val → Type 0
IsEnd h ms (To r) = (held h r.id ≡ None) ⊎ IsNamed ms r.id
IsEnd h ms v = Unit {0}

abbrev pub EndsIn : Private → List Item → Item → Type 0
EndsIn h ms m = Each (IsEnd h ms) (mentioned m.thing)
