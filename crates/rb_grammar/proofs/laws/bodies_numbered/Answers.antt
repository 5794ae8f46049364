use Rattle.rb_grammar.proofs.Numbers.{bodies_numbered}
use Rattle.rb_grammar.proofs.laws.bodies_numbered.Goals as goal

pub returns : goal.returns
returns c = bodies_numbered
