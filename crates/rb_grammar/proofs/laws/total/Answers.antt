use Rattle.rb_grammar.proofs.Turns.{script_answered}
use Rattle.rb_grammar.proofs.laws.total.Goals as goal

pub returns : goal.returns
returns c = script_answered
