use Rattle.std.proofs.Common.{◌∙◌}
use Rattle.rb_model.specs.Values.{plain}
use Rattle.ordered_pairs.proofs.Row.{has_place_told}
use Rattle.ordered_pairs.proofs.few.FewPairs.has.Goals as goal

pub returns : goal.returns
returns c = c.is_some.ensures ∙ has_place_told (plain c.args.key.now) c.args.self.now c.place.result c.place.ensures.there c.place.ensures.none
