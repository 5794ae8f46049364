use Rattle.std.proofs.Common.{◌≡◌, drop}
use Rattle.rb_resolver.specs.Known.{first_in}
use Rattle.rb_resolver.proofs.Rows.{counted}
use Rattle.rb_resolver.proofs.known.first_of.Given as goal

abbrev pub invariant-methods : goal.invariant-methods
invariant-methods l = counted l.i (first_in l.names (drop l.i l.methods)) ≡ first_in l.names l.methods
