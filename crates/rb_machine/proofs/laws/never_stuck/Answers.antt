use Rattle.rb_machine.proofs.Down.{is_never_stuck}
use Rattle.rb_machine.proofs.laws.never_stuck.Goals as goal

pub returns : goal.returns
returns c = is_never_stuck
