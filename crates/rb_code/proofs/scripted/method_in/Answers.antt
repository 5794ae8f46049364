use Rattle.std.proofs.Common.{sym, ◌∙◌}
use Rattle.std.proofs.lemmas.List.{at_drop_all}
use Rattle.rb_code.specs.Dispatch.{method_in}
use Rattle.rb_code.proofs.Dispatched.{method_in_here, method_in_later}
use Rattle.rb_code.proofs.scripted.method_in.Goals as goal

pub returns-then-one-class : goal.returns-then-one-class
returns-then-one-class c = method_in_here c.args.class c.args.found.now c.found.one-index _ c.found-test.true c.found.invariant c.if-one-class.true

pub found-preserved : goal.found-preserved
found-preserved c = method_in_later c.args.class c.args.found.now c.found.one-index _ c.found-test.true c.found.invariant c.if-one-class.false

pub returns : goal.returns
returns c = sym (at_drop_all (method_in c.args.class) c.args.found.now c.found.one-index c.found-test.false) ∙ c.found.invariant
