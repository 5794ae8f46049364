use Rattle.rb_grammar.proofs.Whole.{script_complete}
use Rattle.rb_grammar.proofs.laws.complete.Goals as goal

pub returns : goal.returns
returns c = script_complete
