use Rattle.rb_grammar.proofs.OrderScript.{script_in_order}
use Rattle.rb_grammar.proofs.laws.names_in_order.Goals as goal

pub returns : goal.returns
returns c = script_in_order
