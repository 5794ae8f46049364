-- Values that are nil or a truth value, as a list that may store those in a byte each knows them.
use Rattle.std.proofs.Common.{◌≡◌, Option, Some, None, ap}
use Rattle.std.proofs.lemmas.Option.{same_Some}
use Rattle.typed_location.specs.declared.flag.Flag.{Flag}
use Rattle.typed_location.specs.declared.flag.Flag.TheVariants as flags
use Rattle.rb_model.specs.declared.value.Value.{Value as Held}
use Rattle.rb_model.specs.declared.value.Value.TheVariants as held

-- the flag that a value is, if it is one
abbrev pub flag_in : Held → Option Flag
flag_in held.Nil = Some flags.Nil
flag_in held.False = Some flags.False
flag_in held.True = Some flags.True
flag_in v = None

-- the value of a flag
abbrev pub value_of : Flag → Held
value_of flags.Nil = held.Nil
value_of flags.False = held.False
value_of flags.True = held.True

pub only_value_of : (v : Held) (f : Flag) → flag_in v ≡ Some f → v ≡ value_of f
only_value_of held.Nil f e = ap value_of (same_Some flags.Nil f e)
only_value_of held.False f e = ap value_of (same_Some flags.False f e)
only_value_of held.True f e = ap value_of (same_Some flags.True f e)
only_value_of (held.Int n) f e = absurd (cc)
only_value_of (held.Sym name) f e = absurd (cc)
only_value_of (held.Str bytes) f e = absurd (cc)
only_value_of (held.Ref thing) f e = absurd (cc)
