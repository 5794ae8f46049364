use Rattle.std.proofs.Common.{◌≡◌, drop}
use Rattle.rb_code.specs.Dispatch.{method_in}
use Rattle.rb_code.proofs.scripted.method_in.Given as goal

abbrev pub invariant-found : goal.invariant-found
invariant-found l = method_in l.class (drop l.one-index l.found) ≡ method_in l.class l.found
