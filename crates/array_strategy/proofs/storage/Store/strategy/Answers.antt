use Rattle.array_strategy.proofs.Places.{All-integers}
use Rattle.array_strategy.proofs.storage.Store.strategy.Goals as goal

pub returns-in-Ints-clause-raw : goal.returns-in-Ints-clause-raw
returns-in-Ints-clause-raw g c = rw c.in-Ints.is (λ _. All-integers g.V.Item.int c.in-Ints.field-0.items)
