-- What lists and hashes do by themselves.
use Rattle.std.specs.Prelude.{◌≡◌, Bool, true, false, map, Option, Some, None, IsSomeAnd, Result, Ok, Err}
use Rattle.array_strategy.specs.Elements.{Elements as Stored}
use Rattle.array_strategy.specs.declared.fault.PutFault.{PutFault}
use Rattle.array_strategy.specs.declared.fault.PutFault.TheVariants as fault
use Rattle.ordered_pairs.specs.declared.pairs.PutFault.{PutFault as PairFault}
use Rattle.ordered_pairs.specs.declared.pairs.PutFault.TheVariants as pair_fault
use Rattle.rb_model.specs.declared.act.Reply.{Reply as Answered}
use Rattle.rb_model.specs.declared.fault.Fault.TheVariants.{IndexTooSmall, ArrayTooLong}
use Rattle.rb_model.specs.declared.value.Value.{Value as Held}
use Rattle.rb_model.specs.Values.{Value as Val, plain}
use Rattle.rb_model.specs.Acts.{Act, GetField, SetField, Done, Failed}
use Rattle.rb_model.specs.Doing.{said}
use Rattle.rb_model.specs.Things.{Thing, Elements, Pairs, becomes, gives}
use Rattle.local_heap.specs.Memory.{may_want}

-- the thing that a list is
abbrev pub listed : Stored Held → Thing
listed list = Elements (map plain list.items)

abbrev pub is_list : Option Thing → Bool
is_list (Some (Elements vs)) = true
is_list thing = false

-- what has elements or pairs to count
abbrev pub has_length : Option Thing → Bool
has_length (Some (Elements vs)) = true
has_length (Some (Pairs ps)) = true
has_length thing = false

abbrev pub is_of_field : Act → Bool
is_of_field (GetField name) = true
is_of_field (SetField name v) = true
is_of_field act = false

-- What an act on a thing answered, and what the thing then is. Where memory was refused the thing is what it was.
abbrev pub Does : {E : Type 0} → Thing → Act → Result Answered E → Thing → Type 0
Does thing act (Ok reply) now = (said reply ≡ gives thing act) × (now ≡ becomes thing act)
Does thing act (Err refused) now = (now ≡ thing) × (may_want thing act ≡ true)

-- Whether a write of a value to a thing was done, and what the thing then is. Where it was not, the thing is what it was.
abbrev pub DoesWrite : Bool → Thing → (Val → Act) → Option Val → Thing → Type 0
DoesWrite true thing act value now = IsSomeAnd value (λ v. (Done ≡ gives thing (act v)) × (now ≡ becomes thing (act v)))
DoesWrite false thing act value now = now ≡ thing

-- whether a write that may be refused memory was done
abbrev pub was_done : {E : Type 0} → Result Bool E → Bool
was_done (Ok done) = done
was_done (Err refused) = false

-- what a thing is behind an act that takes a value out, where it was done
abbrev pub DoesTake : Option Val → Thing → Act → Thing → Type 0
DoesTake None thing act now = now ≡ thing
DoesTake (Some v) thing act now = now ≡ becomes thing act

-- what is answered to a write that was refused
abbrev pub Refuses : {E : Type 0} → PutFault → Result Answered E → Type 0
Refuses fault.TooSmall (Ok reply) = said reply ≡ Failed IndexTooSmall
Refuses fault.TooLong (Ok reply) = said reply ≡ Failed ArrayTooLong
Refuses fault.Memory (Err refused) = Unit {0}
Refuses fault result = ⊥

-- what is answered to a write
abbrev pub Tells : {E : Type 0} → Result Unit PutFault → Result Answered E → Type 0
Tells (Ok done) (Ok reply) = said reply ≡ Done
Tells (Ok done) (Err refused) = ⊥
Tells (Err fault) result = Refuses fault result

-- the same of a pair
abbrev pub RefusesPair : {E : Type 0} → PairFault → Result Answered E → Type 0
RefusesPair pair_fault.TooLong (Ok reply) = said reply ≡ Failed ArrayTooLong
RefusesPair pair_fault.Memory (Err refused) = Unit {0}
RefusesPair fault result = ⊥
