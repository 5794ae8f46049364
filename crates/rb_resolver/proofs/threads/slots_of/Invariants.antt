use Rattle.std.proofs.Common.{◌≡◌, true, take}
use Rattle.rb_code.specs.Layout.{have_slots}
use Rattle.rb_resolver.proofs.threads.slots_of.Given as goal

abbrev pub invariant-used : goal.invariant-used
invariant-used l = have_slots (take l.name-index l.used) l.frame.names.items l.slots ≡ true
