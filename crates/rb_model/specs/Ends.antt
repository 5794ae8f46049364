-- How a thread ends.
use Rattle.std.specs.Prelude.{ℕ, Bool, true, false, if◌then◌else◌, List, [], ◌∷◌}
use Rattle.rb_tree.specs.declared.span.Span.{Span}
use Rattle.rb_model.specs.declared.fault.Fault.{Fault}
use Rattle.rb_model.specs.declared.call.End.{End as Held}
use Rattle.rb_model.specs.declared.call.End.TheVariants as held
use Rattle.rb_model.specs.Values.{Value as Val, plain}

-- a value, a fault with its place, the steps used up, the heap full, the sink failed, or want of memory
pub data End : Type 0 where
  Value : (value : Val) → End
  Raised : (fault : Fault) (at : Span) → End
  Steps : End
  Full : (used asked : ℕ) → End
  Sink : End
  Memory : End

-- what an end of the code is
abbrev pub over : Held → End
over (held.Value v) = Value (plain v)
over (held.Raised f at) = Raised f at
over held.Steps = Steps
over (held.Full used asked) = Full used asked
over held.Sink = Sink
over held.Memory = Memory

-- the value that an end tells
abbrev pub told : End → List Val
told (Value v) = v ∷ []
told e = []

-- whether an end is neither a value nor a fault
abbrev pub is_early : End → Bool
is_early (Value v) = false
is_early (Raised f at) = false
is_early how = true

-- the first of two ends that is neither a value nor a fault; where both are, the first
abbrev pub later : End → End → End
later e f = if is_early e then e else if is_early f then f else e

-- The end of a thread, from the first early end among its own and those that it took over, or its own, and whether memory kept it from
-- taking one over: that comes behind all others.
abbrev pub closing : End → Bool → End
closing e lacking = if lacking then later e Memory else e
