use Rattle.std.proofs.Common.{map, refl, sym, ap, ◌∙◌, subst}
use Rattle.rb_model.specs.Values.{plain}
use Rattle.ordered_pairs.specs.Order.{pair_of}
use Rattle.ordered_pairs.specs.Few.{AreFew}
use Rattle.ordered_pairs.proofs.Ordered.{absent_value, nothing_out}
use Rattle.ordered_pairs.proofs.Row.{few_without, place_out, place_value, place_within}
use Rattle.ordered_pairs.proofs.few.FewPairs.delete.Goals as goal

pub remove-value-requires : goal.remove-value-requires
remove-value-requires c = place_within (plain c.args.key.now) c.self.inside.pairs.items c.args.self.now c.self.view_is c.in-Some.place c.in-Some.ensures.there _ c.self.inside.pairs.ok.0

pub invariant_of-self : goal.invariant_of-self
invariant_of-self c =
    let gone = place_out (plain c.args.key.now) c.self.inside.pairs.items c.args.self.now c.self.view_is c.in-Some.place c.in-Some.ensures.there in
    subst AreFew (sym (ap (map pair_of) c.remove-value.ensures.items ∙ gone)) (few_without (plain c.args.key.now) c.args.self.now (subst AreFew c.self.view_is c.self.invariant))

pub returns-in-Some-clause-value : goal.returns-in-Some-clause-value
returns-in-Some-clause-value c =
    place_value (plain c.args.key.now) c.self.inside.pairs.items c.args.self.now c.self.view_is c.in-Some.place c.in-Some.ensures.there c.remove-value.result c.remove-value.ensures.value

pub returns-in-Some-clause-gone : goal.returns-in-Some-clause-gone
returns-in-Some-clause-gone c =
    ap (map pair_of) c.remove-value.ensures.items ∙ place_out (plain c.args.key.now) c.self.inside.pairs.items c.args.self.now c.self.view_is c.in-Some.place c.in-Some.ensures.there

pub returns-in-None-clause-value : goal.returns-in-None-clause-value
returns-in-None-clause-value c = sym (absent_value (plain c.args.key.now) c.args.self.now (c.in-None.ensures.none refl))

pub returns-in-None-clause-gone : goal.returns-in-None-clause-gone
returns-in-None-clause-gone c = sym (nothing_out (plain c.args.key.now) c.args.self.now (c.in-None.ensures.none refl))
