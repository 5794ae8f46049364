use Rattle.std.proofs.Common.{◌≡◌, ◌≤◌, take, length}
use Rattle.rb_code.specs.Layout.{slot_of}
use Rattle.rb_resolver.proofs.frame.find.Given as goal

abbrev pub invariant-backwards : goal.invariant-backwards
invariant-backwards l = record {
  within : l.left ≤ length l.names;
  rest : slot_of l.name (take l.left l.names) ≡ slot_of l.name l.names;
}

abbrev pub decreases-backwards : goal.decreases-backwards
decreases-backwards l = l.left
