use Rattle.rb_machine.proofs.Ways.{context_changes_nothing}
use Rattle.rb_machine.proofs.laws.any_context.Goals as goal

pub returns : goal.returns
returns c = context_changes_nothing
