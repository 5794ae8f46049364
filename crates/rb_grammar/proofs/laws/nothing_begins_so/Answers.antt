use Rattle.rb_grammar.proofs.Whole.{script_refuses}
use Rattle.rb_grammar.proofs.laws.nothing_begins_so.Goals as goal

pub returns : goal.returns
returns c = script_refuses
