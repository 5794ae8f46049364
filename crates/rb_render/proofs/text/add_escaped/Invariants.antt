use Rattle.std.proofs.Common.{◌≡◌, ◌++◌, length}
use Rattle.rb_machine.specs.Texts as spec
use Rattle.rb_render.proofs.text.add_escaped.Given as goal

-- what is written, and what is to be written
abbrev pub invariant-bytes : goal.invariant-bytes
invariant-bytes l = l.out.items ++ spec.escaped l.rest ≡ l.fn.out.items ++ spec.escaped l.bytes

abbrev pub decreases-bytes : goal.decreases-bytes
decreases-bytes l = length l.rest
