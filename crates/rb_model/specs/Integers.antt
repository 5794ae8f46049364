-- Values that are integers, as a list that may store raw integers knows them.
use Rattle.std.proofs.Common.{◌≡◌, Option, Some, None, refl}
use Rattle.std.specs.Prelude.{ℤ, FitsSigned}
use Rattle.std.specs.Int.{w64}
use Rattle.rb_model.specs.declared.value.Value.{Value as Held}
use Rattle.rb_model.specs.declared.value.Value.TheVariants as held

-- the integer that a value is, if it is one
abbrev pub integer_in : Held → Option ℤ
integer_in (held.Int n) = Some n
integer_in v = None

pub known_integer : (n : ℤ) → FitsSigned w64 n → integer_in (held.Int n) ≡ Some n
known_integer n fits = refl

pub only_integer : (v : Held) (n : ℤ) → integer_in v ≡ Some n → v ≡ held.Int n
only_integer (held.Int m) n e = cc
only_integer held.Nil n e = absurd (cc)
only_integer held.False n e = absurd (cc)
only_integer held.True n e = absurd (cc)
only_integer (held.Sym name) n e = absurd (cc)
only_integer (held.Str bytes) n e = absurd (cc)
only_integer (held.Ref thing) n e = absurd (cc)
