-- What may be handed over, and what is gathered for it.
use Rattle.std.specs.Prelude.{◌≡◌, ◌⊎◌, List, [], ◌∷◌, ◌++◌, map, IsSome, is_some, Option, Some, if◌then◌else◌}
use Rattle.std.specs.Option.{option_map, option_and_then}
use Rattle.rb_model.specs.declared.act.Act.{Act as Asked}
use Rattle.rb_model.specs.declared.act.Act.TheVariants as asked
use Rattle.rb_model.specs.declared.moved.MovedItem.{MovedItem}
use Rattle.rb_model.specs.declared.value.Ref.{Ref}
use Rattle.rb_model.specs.declared.value.Value.{Value as Held}
use Rattle.rb_model.specs.declared.value.Value.TheVariants as value
use Rattle.rb_model.specs.Doing.{doing}
use Rattle.rb_model.specs.Immediates.{reference}
use Rattle.rb_model.specs.Moving.{items_of, refs_in, refs_in_act, refs_in_all, refs_in_moved}
use Rattle.rb_model.specs.Private.{Item, Leaves, Private, held}
use Rattle.rb_model.specs.Values.{Value as Val, plain}
use Rattle.rb_shared.specs.Asking.{AllDiffer, IsOwnId, MayMove, NamesOne}
use Rattle.rb_shared.specs.Lists.{Each, Has}
use Rattle.publish_barrier.specs.Leaving.{ids_of, without}
use Rattle.publish_barrier.specs.Sorts.{noted_same}

-- ---- references as they are handed over

-- A reference as it is handed over: as it is where its thing is private, and so will move, and else the noted one to the same thing, with the place
-- of that. One that is neither is not handed over.
abbrev pub address_ref : Private → List Ref → Ref → Option Ref
address_ref h refs r = if is_some (held h r.id) then Some r else noted_same refs r

-- a value, with its reference as it is handed over
abbrev pub address : Private → List Ref → Held → Option Held
address h refs (value.Ref r) = option_map (λ (a : Ref). value.Ref a) (address_ref h refs r)
address h refs v = Some v

-- the same of each of some values
abbrev pub address_all : Private → List Ref → List Held → Option (List Held)
address_all h refs [] = Some []
address_all h refs (v ∷ vs) = option_and_then (λ (w : Held). option_map (λ (ws : List Held). w ∷ ws) (address_all h refs vs)) (address h refs v)

-- the same of what an act hands over
abbrev pub address_act : Private → List Ref → Asked → Option Asked
address_act h refs (asked.SetField name v) = option_map (λ (w : Held). asked.SetField name w) (address h refs v)
address_act h refs (asked.Put i v) = option_map (λ (w : Held). asked.Put i w) (address h refs v)
address_act h refs (asked.Push v) = option_map (λ (w : Held). asked.Push w) (address h refs v)
address_act h refs (asked.Unshift v) = option_map (λ (w : Held). asked.Unshift w) (address h refs v)
address_act h refs (asked.KGet k) = option_map (λ (w : Held). asked.KGet w) (address h refs k)
address_act h refs (asked.KHas k) = option_map (λ (w : Held). asked.KHas w) (address h refs k)
address_act h refs (asked.KPut k v) = option_and_then (λ (j : Held). option_map (λ (w : Held). asked.KPut j w) (address h refs v)) (address h refs k)
address_act h refs (asked.KDelete k) = option_map (λ (w : Held). asked.KDelete w) (address h refs k)
address_act h refs act = Some act

-- a reference is noted, or its thing is private, and so will move
abbrev pub IsAddressed : Private → List Ref → Ref → Type 0
IsAddressed h refs r = Has refs r ⊎ IsSome (held h r.id)

-- a reference to the same thing that is so
abbrev pub AddressesRef : Private → List Ref → Ref → Ref → Type 0
AddressesRef h refs r a = (reference a ≡ reference r) × IsAddressed h refs a

-- the same value, whose reference is so
abbrev pub Addresses : Private → List Ref → Val → Held → Type 0
Addresses h refs v w = (plain w ≡ v) × Each (IsAddressed h refs) (refs_in w)

-- the same of each of some values
abbrev pub AddressesAll : Private → List Ref → List Held → List Held → Type 0
AddressesAll h refs vs ws = (map plain ws ≡ map plain vs) × Each (IsAddressed h refs) (refs_in_all ws)

-- the same of what an act hands over
abbrev pub AddressesAct : Private → List Ref → Asked → Asked → Type 0
AddressesAct h refs a b = (doing b ≡ doing a) × Each (IsAddressed h refs) (refs_in_act b)

-- ---- what is gathered

-- a reference is noted, or names one of the things that move
abbrev pub IsTold : List Ref → List MovedItem → Ref → Type 0
IsTold refs ms r = Has refs r ⊎ NamesOne ms r

-- What moves with values that are handed over, which hold these references: the things that leave with them, as a shared store asks it of
-- things that move. None has a place yet.
pub record Gathers (h : Private) (refs : List Ref) (vs : List Val) (rs : List Ref) (ms : List MovedItem) : Type 0 where
  pub leaves : Leaves h vs (items_of ms) (without h (items_of ms))
  pub own : Each (λ (m : MovedItem). IsOwnId h.thread m.id) ms
  pub once : AllDiffer (ids_of ms)
  pub things : Each (λ (x : Item). MayMove h.thread x.thing) (items_of ms)
  pub told : Each (IsTold refs ms) (rs ++ refs_in_moved ms)
  pub unlaid : Each (λ (m : MovedItem). m.at ≡ 0) ms
