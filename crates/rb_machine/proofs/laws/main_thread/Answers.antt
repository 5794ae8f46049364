use Rattle.rb_machine.proofs.Main.{does_as_alone, shows_a_front}
use Rattle.rb_machine.proofs.laws.main_thread.Goals as goal

pub returns-clause-whole : goal.returns-clause-whole
returns-clause-whole c = does_as_alone

pub returns-clause-front : goal.returns-clause-front
returns-clause-front c = shows_a_front
