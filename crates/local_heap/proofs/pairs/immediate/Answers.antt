use Rattle.std.proofs.Common.{◌∙◌, ap, refl, sym}
use Rattle.rb_model.specs.Values.{plain}
use Rattle.rb_model.specs.Immediates.{told}
use Rattle.ordered_pairs.proofs.Ordered.{absent_value}
use Rattle.local_heap.proofs.pairs.immediate.Goals as goal

pub returns-in-Some : goal.returns-in-Some
returns-in-Some c = c.immediate_of.ensures ∙ ap told c.in-Some.ensures.value

pub returns-in-None : goal.returns-in-None
returns-in-None c = ap told (sym (absent_value (plain c.args.key.now) c.args.pairs.now (c.in-None.ensures.none refl)))
