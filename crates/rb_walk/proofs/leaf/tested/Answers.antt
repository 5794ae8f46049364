use Rattle.rb_model.specs.Values.{plain}
use Rattle.rb_walk.proofs.leaf.tested.Goals as goal

pub returns-clause-held : goal.returns-clause-held
returns-clause-held c = (plain c.in_ok-value.value.now, c.in_ok-value.ensures, c.truth_of.ensures.truth)
