-- How the body of a thread begins.
use Rattle.std.specs.Prelude.{ℕ, nat_lt, if◌then◌else◌, List, [], ◌++◌, length, take, drop, Option, Some, None, slice_get, unwrap_or}
use Rattle.rb_tree.specs.declared.node.Block.{Block}
use Rattle.rb_model.specs.Values.{Value, Nil}
use Rattle.rb_model.specs.Ends.{Value as Valued}
use Rattle.rb_machine.specs.Scopes.{Script, fresh}
use Rattle.rb_machine.specs.Control.{State, On, Following}
use Rattle.rb_machine.specs.Call.{ended}

-- the values behind the arguments of a start begin with `self` where there is one more than so many locals that are captured
abbrev pub self_among : ℕ → List Value → Value
self_among captured values = if nat_lt captured (length values) then unwrap_or (slice_get values 0) Nil else Nil

abbrev pub captured_among : ℕ → List Value → List Value
captured_among captured values = if nat_lt captured (length values) then drop 1 values else values

-- A thread of a script, with so many steps at most.
module _ (S : Script) (N : ℕ) where
  -- The body of this number begins with the values of its start: the arguments are the values of its parameters, the others those of the locals
  -- that it captures, and all its other locals are nil. Its end is the value of its last statement.
  abbrev pub beginning_of : Option Block → ℕ → List Value → State
  beginning_of (Some block) body values =
      let behind = drop (length block.params) values in
      let captured = length (S.captured_names body) in
      On (Following Nil block.body) []
      (record { me = self_among captured behind; locals = fresh (S.thread_names body) (take (length block.params) values ++ captured_among captured behind) }) 0 N
  beginning_of None body values = ended (Valued Nil) N

  abbrev pub beginning : ℕ → List Value → State
  beginning body values = beginning_of (slice_get S.program.bodies body) body values
