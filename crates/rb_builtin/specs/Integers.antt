-- What operations on two integers answer.
use Rattle.std.specs.Prelude.{ℤ, ◌+ℤ◌, ◌-ℤ◌, ◌*ℤ◌, int_lt, int_le, Option, Some, None, Bool, true, false}
use Rattle.std.specs.Ordering.{int_eq}
use Rattle.rb_model.specs.declared.fault.Fault.TheVariants.{NoMethod, ZeroDivision, IntegerOverflow}
use Rattle.rb_model.specs.Values.{Value, truth}
use Rattle.rb_model.specs.Values as value
use Rattle.rb_machine.specs.Methods.{Answer, Gives, Raises, integer, unless_zero, quotient, modulo}
use Rattle.rb_builtin.specs.declared.builtin.Builtin.{Builtin}
use Rattle.rb_builtin.specs.declared.builtin.Builtin.TheVariants as builtin
use Rattle.rb_builtin.specs.declared.integer.IntegerAnswer.{IntegerAnswer}
use Rattle.rb_builtin.specs.declared.integer.IntegerAnswer.TheVariants as answer

-- what an answer without memory says
abbrev pub answer_of : IntegerAnswer → Answer
answer_of (answer.Int n) = Gives (value.Int n)
answer_of answer.False = Gives value.False
answer_of answer.True = Gives value.True
answer_of answer.Overflow = Raises IntegerOverflow
answer_of answer.ByZero = Raises ZeroDivision
answer_of answer.NoOperation = Raises NoMethod

-- a result, where there is one of 64 bits
abbrev pub if_fitted : Option ℤ → Answer
if_fitted None = Raises IntegerOverflow
if_fitted (Some n) = Gives (value.Int n)

-- an operation on two integers, as the table has it
abbrev pub operated : Builtin → ℤ → ℤ → Answer
operated builtin.Plus m n = integer (m +ℤ n)
operated builtin.Minus m n = integer (m -ℤ n)
operated builtin.Times m n = integer (m *ℤ n)
operated builtin.Over m n = unless_zero quotient m n
operated builtin.Modulo m n = unless_zero modulo m n
operated builtin.Less m n = Gives (truth (int_lt m n))
operated builtin.AtMost m n = Gives (truth (int_le m n))
operated builtin.More m n = Gives (truth (int_lt n m))
operated builtin.AtLeast m n = Gives (truth (int_le n m))
operated builtin.Equal m n = Gives (truth (int_eq m n))
operated other m n = Raises NoMethod

-- the methods of which one integer and another make an operation
abbrev pub is_operation : Builtin → Bool
is_operation builtin.Plus = true
is_operation builtin.Minus = true
is_operation builtin.Times = true
is_operation builtin.Over = true
is_operation builtin.Modulo = true
is_operation builtin.Less = true
is_operation builtin.AtMost = true
is_operation builtin.More = true
is_operation builtin.AtLeast = true
is_operation builtin.Equal = true
is_operation other = false
