use Rattle.rb_grammar.proofs.Whole.{one_script, one_program}
use Rattle.rb_grammar.proofs.laws.one_tree.Goals as goal

pub returns-clause-script : goal.returns-clause-script
returns-clause-script c = one_script

pub returns-clause-program : goal.returns-clause-program
returns-clause-program c = one_program
