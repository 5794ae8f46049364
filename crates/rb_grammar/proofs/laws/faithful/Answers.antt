use Rattle.rb_grammar.proofs.FaithfulScript.{script_is_faithful}
use Rattle.rb_grammar.proofs.laws.faithful.Goals as goal

pub returns : goal.returns
returns c = script_is_faithful
