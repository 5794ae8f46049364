use Rattle.rb_machine.proofs.Counts.{counts_steps, replies_are_free}
use Rattle.rb_machine.proofs.laws.steps.Goals as goal

pub returns-clause-counted : goal.returns-clause-counted
returns-clause-counted c = counts_steps

pub returns-clause-replies : goal.returns-clause-replies
returns-clause-replies c = replies_are_free
