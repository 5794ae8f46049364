use Rattle.array_strategy.proofs.Places.{ints_raw}
use Rattle.array_strategy.proofs.storage.Store.push_flag.Goals as goal

pub returns-in-Ints-clause-refused : goal.returns-in-Ints-clause-refused
returns-in-Ints-clause-refused g c = λ _. ints_raw g.V.Item.int g.V.Item.flag _ c.in-Ints.field-0 c.in-Ints.is
