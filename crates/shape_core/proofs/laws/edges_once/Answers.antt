use Rattle.shape_core.proofs.Names.{adds_once, widens_once}
use Rattle.shape_core.proofs.laws.edges_once.Goals as goal

pub returns-clause-adds : goal.returns-clause-adds
returns-clause-adds c = adds_once

pub returns-clause-widens : goal.returns-clause-widens
returns-clause-widens c = widens_once
