use Rattle.shape_core.proofs.Places.{below, once}
use Rattle.shape_core.proofs.laws.places_given_once.Goals as goal

pub returns-clause-below : goal.returns-clause-below
returns-clause-below c = below

pub returns-clause-once : goal.returns-clause-once
returns-clause-once c = once
