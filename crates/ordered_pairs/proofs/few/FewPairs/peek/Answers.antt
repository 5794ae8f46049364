use Rattle.rb_model.specs.Values.{plain}
use Rattle.ordered_pairs.proofs.Row.{place_within, stands_there, place_value}
use Rattle.ordered_pairs.proofs.few.FewPairs.peek.Goals as goal

pub index-requires : goal.index-requires
index-requires c = place_within (plain c.args.key.now) c.self.inside.pairs.items c.args.self.now c.self.view_is c.in_ok-place.place c.in_ok-place.ensures.there _ c.self.inside.pairs.ok.0

pub returns-clause-there : goal.returns-clause-there
returns-clause-there c = stands_there (plain c.args.key.now) c.in_ok-place.place c.args.self.now c.in_ok-place.ensures.there

pub returns-clause-value : goal.returns-clause-value
returns-clause-value c =
    place_value (plain c.args.key.now) c.self.inside.pairs.items c.args.self.now c.self.view_is c.in_ok-place.place c.in_ok-place.ensures.there c.index.result.now c.index.ensures
