use Rattle.rb_machine.proofs.Turns.{receivers_come_first, arguments_come_once, arguments_come_in_turn}
use Rattle.rb_machine.proofs.laws.calls_in_turn.Goals as goal

pub returns-clause-receiver : goal.returns-clause-receiver
returns-clause-receiver c = receivers_come_first

pub returns-clause-once : goal.returns-clause-once
returns-clause-once c = arguments_come_once

pub returns-clause-turn : goal.returns-clause-turn
returns-clause-turn c = arguments_come_in_turn
