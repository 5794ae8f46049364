use Rattle.std.proofs.Common.{◌∙◌}
use Rattle.rb_walk.proofs.Lists.{last_is}
use Rattle.rb_walk.proofs.slots.last_of.Goals as goal

pub returns : goal.returns
returns c = λ S. c.in_ok-copy.ensures.value ∙ last_is S c.args.values.now c.in-Some.last.now c.in-Some.ensures
