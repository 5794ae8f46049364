-- What stands in a shared store besides the things: that each thing mentions things of the store alone, and is not too long.
use Rattle.std.specs.Prelude.{◌≡◌, ◌≤◌, List, [], ◌∷◌, length, Option, Some}
use Rattle.std.specs.List.{flat_map}
use Rattle.std.specs.Option.{option_map}
use Rattle.rb_model.specs.declared.value.Id.{Id}
use Rattle.rb_model.specs.declared.value.Ref.{Ref}
use Rattle.rb_model.specs.declared.value.Sort.{Sort}
use Rattle.rb_model.specs.declared.value.Sort.TheVariants as sort
use Rattle.rb_model.specs.Acts.{Reply, handed}
use Rattle.rb_model.specs.Acts as reply
use Rattle.rb_model.specs.Ends.{told}
use Rattle.rb_model.specs.Immediates.{reference}
use Rattle.rb_model.specs.Log.{Call, On, Start, End}
use Rattle.rb_model.specs.Private.{Item}
use Rattle.rb_model.specs.Things.{Thing, Object, Elements, Pairs, Mutex, Thread, mentioned, max_elements}
use Rattle.rb_model.specs.Values.{Value, Reference, To}
use Rattle.rb_shared.specs.Lists.{Each}
use Rattle.rb_shared.specs.Store.{Store, found}

-- ---- sorts

-- the sort of a thing
abbrev pub sort_in : Thing → Sort
sort_in (Object class fields) = sort.Object class
sort_in (Elements values) = sort.List
sort_in (Pairs pairs) = sort.Pairs
sort_in (Mutex owner) = sort.Mutex
sort_in (Thread state) = sort.Thread

-- the sort of the thing under an id, where there is one
abbrev pub sort_at : Store → Id → Option Sort
sort_at z id = option_map sort_in (found z id)

-- a reference names a thing of the store, of its sort
abbrev pub Names : Store → Reference → Type 0
Names z r = sort_at z r.id ≡ Some r.sort

-- a value names nothing, or a thing of the store
abbrev pub Fits : Store → Value → Type 0
Fits z (To r) = Names z r
Fits z v = Unit {0}

-- the same of a reference that the code holds, wherever it says that the thing lies
abbrev pub NamesHeld : Store → Ref → Type 0
NamesHeld z r = Names z (reference r)

-- ---- what is mentioned

-- these things mention things of the store alone
abbrev pub MentionIn : Store → List Item → Type 0
MentionIn z xs = Each (λ (x : Item). Each (Fits z) (mentioned x.thing)) xs

-- the values that a call hands over
abbrev pub values_in_call : Call → List Value
values_in_call (On thing act) = handed act
values_in_call (Start id body values) = values
values_in_call (End how) = told how
values_in_call call = []

-- the values that a reply tells
abbrev pub values_in_reply : Reply → List Value
values_in_reply (reply.Value v) = v ∷ []
values_in_reply (reply.Elements vs) = vs
values_in_reply (reply.Pairs ps) = flat_map (λ (p : Value × Value). p.0 ∷ p.1 ∷ []) ps
values_in_reply reply.Done = []
values_in_reply (reply.Started number thread) = To thread ∷ []
values_in_reply (reply.Ended how) = told how
values_in_reply (reply.Failed fault) = []

-- ---- lengths

-- no list and no hash is longer than one may be
abbrev pub IsSized : Thing → Type 0
IsSized (Elements values) = length values ≤ max_elements
IsSized (Pairs pairs) = length pairs ≤ max_elements
IsSized thing = Unit {0}

abbrev pub AreSized : List Item → Type 0
AreSized xs = Each (λ (x : Item). IsSized x.thing) xs
