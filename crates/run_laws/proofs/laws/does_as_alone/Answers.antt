use Rattle.run_laws.proofs.Beside.{does_as_alone, shows_a_front}
use Rattle.run_laws.proofs.laws.does_as_alone.Goals as goal

pub returns-clause-whole : goal.returns-clause-whole
returns-clause-whole c = does_as_alone

pub returns-clause-front : goal.returns-clause-front
returns-clause-front c = shows_a_front
