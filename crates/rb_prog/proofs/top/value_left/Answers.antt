use Rattle.std.proofs.Common.{ap, refl}
use Rattle.rb_model.specs.Ends.{over}
use Rattle.rb_prog.proofs.top.value_left.Goals as goal

pub returns-in-Value-clause-value : goal.returns-in-Value-clause-value
returns-in-Value-clause-value c = (_, ap over c.in-Value.is, refl, refl)
