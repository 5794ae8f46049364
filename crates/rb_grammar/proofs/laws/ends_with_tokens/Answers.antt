use Rattle.rb_grammar.proofs.Ends.{script_ends}
use Rattle.rb_grammar.proofs.laws.ends_with_tokens.Goals as goal

pub returns : goal.returns
returns c = script_ends
