use Rattle.std.proofs.Common.{◌≡◌, ◌++◌, drop}
use Rattle.rb_checker.specs.Events as spec
use Rattle.rb_checker.proofs.gather.add_params.Given as goal

abbrev pub invariant-params : goal.invariant-params
invariant-params l = l.events.items ++ spec.params_of (drop l.param-index l.params) ≡ l.fn.events.items ++ spec.params_of l.params
