use Rattle.typed_location.specs.declared.general_place.Any.TheVariants.{Small}
use Rattle.typed_location.proofs.tests.small_of.Goals as goal

pub returns-in-None-clause-none : goal.returns-in-None-clause-none
returns-in-None-clause-none c = λ n. c.in-None.ensures.none (Small n)
