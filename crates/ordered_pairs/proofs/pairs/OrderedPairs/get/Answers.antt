use Rattle.std.proofs.Common.{refl, sym}
use Rattle.rb_model.specs.Values.{plain}
use Rattle.ordered_pairs.proofs.Ordered.{absent_value}
use Rattle.ordered_pairs.proofs.pairs.OrderedPairs.get.Goals as goal

pub returns-in-Some-clause-value : goal.returns-in-Some-clause-value
returns-in-Some-clause-value c = rw c.in-Some.ensures.value at c.share.ensures.value

pub returns-in-Some-clause-refused : goal.returns-in-Some-clause-refused
returns-in-Some-clause-refused c = rw c.in-Some.ensures.value at c.share.ensures.refused

pub returns-in-None-clause-value : goal.returns-in-None-clause-value
returns-in-None-clause-value c = sym (absent_value (plain c.args.key.now) c.args.self.now (c.in-None.ensures.none refl))
