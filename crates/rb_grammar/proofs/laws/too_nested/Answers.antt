use Rattle.rb_grammar.proofs.Whole.{script_nests, script_keeps_limits}
use Rattle.rb_grammar.proofs.laws.too_nested.Goals as goal

pub returns-clause-only : goal.returns-clause-only
returns-clause-only c = script_nests

pub returns-clause-always : goal.returns-clause-always
returns-clause-always c = script_keeps_limits
