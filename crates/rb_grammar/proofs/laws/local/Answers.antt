use Rattle.rb_grammar.proofs.Whole.{script_refuses_locally, phrase_reads_locally}
use Rattle.rb_grammar.proofs.laws.local.Goals as goal

pub returns-clause-refused : goal.returns-clause-refused
returns-clause-refused c = script_refuses_locally

pub returns-clause-read : goal.returns-clause-read
returns-clause-read c = phrase_reads_locally
