use Rattle.array_strategy.proofs.Places.{flags_alone}
use Rattle.array_strategy.proofs.storage.Store.push_int.Goals as goal

pub returns-in-Flags-clause-refused : goal.returns-in-Flags-clause-refused
returns-in-Flags-clause-refused g c = λ _. flags_alone g.V.Item.int g.V.Item.flag _ c.in-Flags.field-0 c.in-Flags.is
