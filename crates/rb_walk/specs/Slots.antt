-- What the slots of a block have at the start of an iteration.
use Rattle.std.specs.Prelude.{ℕ, zero, suc, ℤ, Bool, true, false}
use Rattle.rb_model.specs.declared.value.Value.{Value}
use Rattle.rb_model.specs.declared.value.Value.TheVariants as held

-- the first has the value of the iteration where the block takes one, the others nil
abbrev pub first_of_block : Bool → ℤ → ℕ → Value
first_of_block true n zero = held.Int n
first_of_block true n (suc i) = held.Nil
first_of_block false n i = held.Nil
