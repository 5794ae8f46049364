-- Values as the language knows them.
use Rattle.std.specs.Prelude.{ℕ, ℤ, Bool, true, false, ◌==◌, ◌&&◌, List, Option, Some, None}
use Rattle.std.specs.Ordering.{int_eq}
use Rattle.std.specs.Str.{bytes_eq}
use Rattle.rb_tree.specs.declared.span.NameId.{NameId}
use Rattle.rb_model.specs.declared.value.Id.{Id}
use Rattle.rb_model.specs.declared.value.Sort.{Sort}
use Rattle.rb_model.specs.declared.value.Value.{Value as Held}
use Rattle.rb_model.specs.declared.value.Value.TheVariants as held

-- a reference to a thing
pub record Reference : Type 0 where
  pub sort : Sort
  pub id : Id

-- a value
pub data Value : Type 0 where
  Nil : Value
  False : Value
  True : Value
  Int : (n : ℤ) → Value
  Sym : (name : NameId) → Value
  Str : (bytes : List ℕ) → Value
  To : (thing : Reference) → Value

-- what a value of the code is
abbrev pub plain : Held → Value
plain held.Nil = Nil
plain held.False = False
plain held.True = True
plain (held.Int n) = Int n
plain (held.Sym name) = Sym name
plain (held.Str bytes) = Str bytes
plain (held.Ref thing) = To (record { sort = thing.sort; id = thing.id })

-- only nil and false are false
abbrev pub truthy : Value → Bool
truthy Nil = false
truthy False = false
truthy v = true

-- a text: where as many own it as can be counted, no one more may
abbrev pub is_text : Value → Bool
is_text (Str bytes) = true
is_text v = false

abbrev pub truth : Bool → Value
truth true = True
truth false = False

abbrev pub same_id : Id → Id → Bool
same_id a b = a.thread == b.thread && a.serial == b.serial

-- whether two values are one and the same: the same truth value, integer, symbol, bytes or thing
abbrev pub same : Value → Value → Bool
same Nil Nil = true
same False False = true
same True True = true
same (Int m) (Int n) = int_eq m n
same (Sym m) (Sym n) = m.0 == n.0
same (Str a) (Str b) = bytes_eq a b
same (To a) (To b) = same_id a.id b.id
same v w = false

abbrev pub or_nil : Option Value → Value
or_nil None = Nil
or_nil (Some v) = v
