use Rattle.rb_machine.proofs.Making.{new_makes_an_object, without_initialize, new_gives_the_object}
use Rattle.rb_machine.proofs.laws.new_objects.Goals as goal

pub returns-clause-made : goal.returns-clause-made
returns-clause-made c = new_makes_an_object

pub returns-clause-without : goal.returns-clause-without
returns-clause-without c = without_initialize

pub returns-clause-value : goal.returns-clause-value
returns-clause-value c = new_gives_the_object
