use Rattle.rb_machine.proofs.Budgets.{more_steps_change_nothing, more_steps_show_more, fewer_steps_end_early}
use Rattle.rb_machine.proofs.Enough.{steps_taken_are_enough}
use Rattle.rb_machine.proofs.Scoping.{steps_are_used_up}
use Rattle.rb_machine.proofs.laws.budgets.Goals as goal

pub returns-clause-kept : goal.returns-clause-kept
returns-clause-kept c = more_steps_change_nothing

pub returns-clause-front : goal.returns-clause-front
returns-clause-front c = more_steps_show_more

pub returns-clause-enough : goal.returns-clause-enough
returns-clause-enough c = steps_taken_are_enough

pub returns-clause-early : goal.returns-clause-early
returns-clause-early c = fewer_steps_end_early

pub returns-clause-used : goal.returns-clause-used
returns-clause-used c = steps_are_used_up
