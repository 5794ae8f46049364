use Rattle.rb_grammar.proofs.Naming.{names_all}
use Rattle.rb_grammar.proofs.laws.names_all.Goals as goal

pub returns : goal.returns
returns c = names_all
