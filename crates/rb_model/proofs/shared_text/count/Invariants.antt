use Rattle.std.proofs.Common.{take, ◌≡◌}
use Rattle.rb_model.specs.Characters.{characters}
use Rattle.rb_model.proofs.shared_text.count.Given as goal

abbrev pub invariant-bytes : goal.invariant-bytes
invariant-bytes l = l.found ≡ characters (take l.byte-index l.bytes)
