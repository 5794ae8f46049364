-- Which acts may want memory.
use Rattle.std.specs.Prelude.{◌≡◌, ◌==◌, ◌^◌, ◌&&◌, ◌||◌, ℕ, Bool, true, false, nat_lt, not, if◌then◌else◌, ℤ, ◌+ℤ◌, pos, negsuc, FitsSigned, List, [], ◌∷◌, length, Option, Some, None}
use Rattle.std.specs.Int.{w64}
use Rattle.std.specs.List.{list_all}
use Rattle.rb_tree.specs.declared.span.NameId.{NameId}
use Rattle.rb_model.specs.Values.{Value as Val, Nil, False, True, Int, Str, To, is_text}
use Rattle.rb_model.specs.Acts.{Act, GetField, SetField, At, Put, Push, Unshift, KGet, KPut, Copy}
use Rattle.rb_model.specs.declared.value.Id.{Id}
use Rattle.rb_model.specs.Private.{Private, held}
use Rattle.rb_model.specs.Things.{Thing, Object, Elements, Pairs, Field, field, is_integer, element, index_of, has_key, has_room, max_elements, value_at}

-- a value that is kept beside its word: a text, a reference, or an integer outside -2^60 to 2^60 - 1
abbrev pub is_kept : Val → Bool
is_kept (Int (pos n)) = not (nat_lt n (2 ^ 60))
is_kept (Int (negsuc n)) = not (nat_lt n (2 ^ 60))
is_kept (Str bytes) = true
is_kept (To thing) = true
is_kept v = false

-- whether the field of a name is wide, where there is one
abbrev pub wide_on : NameId → List Field → Option Bool
wide_on name [] = None
wide_on name (f ∷ fs) = if f.name.0 == name.0 then Some f.wide else wide_on name fs

-- A write to a new name may want memory, and so may one that widens its field, and one of a value that is kept beside its word.
abbrev pub write_wants : Option Bool → Val → Bool
write_wants None v = true
write_wants (Some false) v = not (is_integer v)
write_wants (Some true) v = is_kept v

-- nil or a truth value
abbrev pub is_flag : Val → Bool
is_flag Nil = true
is_flag False = true
is_flag True = true
is_flag v = false

-- A value of another kind comes among values of one kind alone: they are integers and it is none, or each of them is nil or a truth
-- value and it is neither.
abbrev pub widens : List Val → Val → Bool
widens vs v = (not (is_integer v) && list_all is_integer vs) || (not (is_flag v) && list_all is_flag vs)

-- A write within a list wants memory only where it widens the list. One behind the last element lengthens the list, where that may be.
abbrev pub put_wants : List Val → Option ℕ → Val → Bool
put_wants vs None v = false
put_wants vs (Some n) v = nat_lt n max_elements && (not (nat_lt n (length vs)) || widens vs v)

abbrev pub has_element : ℕ → Option ℕ → Bool
has_element count None = false
has_element count (Some n) = nat_lt n count

-- A write of an immediate value that is done at once, and wants no memory but for room: the list has the element, or may have one more, and
-- the value does not widen it.
abbrev pub at_once : Thing → Act → Bool
at_once (Elements vs) (Put i v) = has_element (length vs) (index_of (length vs) i) && not (widens vs v)
at_once (Elements vs) (Push v) = has_room (length vs) && not (widens vs v)
at_once thing act = false

-- A sum of a field and an integer that is made at once: the field is there, nothing but integers was written to it, and the sum has 64 bits.
abbrev pub HasSum : Thing → NameId → ℤ → Type 0
HasSum (Object class fs) name n = (wide_on name fs ≡ Some false) × (m : ℤ) × (field name fs ≡ Int m) × FitsSigned w64 (m +ℤ n)
HasSum thing name n = ⊥

-- An act that may want memory. A read wants none but where as many own a text as can be counted. What takes out, counts or clears wants
-- none, and neither does what is refused.
abbrev pub may_want : Thing → Act → Bool
may_want (Object class fs) (GetField name) = is_text (field name fs)
may_want (Object class fs) (SetField name v) = write_wants (wide_on name fs) v
may_want (Elements vs) (At i) = is_text (element vs (index_of (length vs) i))
may_want (Elements vs) (Put i v) = put_wants vs (index_of (length vs) i) v
may_want (Elements vs) (Push v) = has_room (length vs)
may_want (Elements vs) (Unshift v) = has_room (length vs)
may_want (Elements vs) Copy = true
may_want (Pairs ps) (KGet k) = is_text (value_at k ps)
may_want (Pairs ps) (KPut k v) = not (has_key k ps) && has_room (length ps)
may_want (Pairs ps) Copy = true
may_want thing act = false

-- the same of the thing of an id
abbrev pub MayWant : Private → Id → Act → Type 0
MayWant h id act = (thing : Thing) → held h id ≡ Some thing → may_want thing act ≡ true

-- what an id has is no thing to which an act is done at once
abbrev pub NotAtOnce : Private → Id → Act → Type 0
NotAtOnce h id act = (thing : Thing) → held h id ≡ Some thing → at_once thing act ≡ false
