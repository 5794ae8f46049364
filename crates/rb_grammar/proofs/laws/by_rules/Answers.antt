use Rattle.rb_grammar.proofs.Runs.{answer_runs}
use Rattle.rb_grammar.proofs.laws.by_rules.Goals as goal

pub returns : goal.returns
returns c = answer_runs
