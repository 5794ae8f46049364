use Rattle.array_strategy.proofs.array.LocalArray.strategy.Goals as goal

pub returns-clause-raw : goal.returns-clause-raw
returns-clause-raw g c = rw (← c.self.view_is) c.strategy.ensures.raw
