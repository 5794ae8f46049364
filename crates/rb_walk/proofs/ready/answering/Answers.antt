use Rattle.rb_model.specs.Values.{plain}
use Rattle.rb_machine.specs.Scopes.{text_of}
use Rattle.rb_walk.proofs.Calls.{none_plain}
use Rattle.rb_walk.proofs.ready.answering.Goals as goal

pub returns-in-Some-clause-alone : goal.returns-in-Some-clause-alone
returns-in-Some-clause-alone c = λ S st. none_plain S (plain c.in-Some.held.now) (text_of S c.args.name) c.in-Some.ensures.plain
