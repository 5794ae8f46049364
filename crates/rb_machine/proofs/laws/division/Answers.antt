use Rattle.rb_machine.proofs.Division.{divides_back, rests_are_small, divides_one_way, divisions_answer}
use Rattle.rb_machine.proofs.laws.division.Goals as goal

pub returns-clause-whole : goal.returns-clause-whole
returns-clause-whole c = divides_back

pub returns-clause-rest : goal.returns-clause-rest
returns-clause-rest c = rests_are_small

pub returns-clause-one : goal.returns-clause-one
returns-clause-one c = divides_one_way

pub returns-clause-answered : goal.returns-clause-answered
returns-clause-answered c = divisions_answer
