use Rattle.std.proofs.Common.{◌≡◌, false, map, take, refl, sym, ◌∙◌, subst, add-one}
use Rattle.rb_model.specs.Values.{plain}
use Rattle.rb_model.specs.Things.{has_key}
use Rattle.ordered_pairs.specs.Order.{pair_of}
use Rattle.ordered_pairs.proofs.Row.{none_here, passed_more, stands_here}
use Rattle.ordered_pairs.proofs.few.place_in.Goals as goal

pub pairs-init : goal.pairs-init
pairs-init c = refl

pub returns-then-eq-clause-there : goal.returns-then-eq-clause-there
returns-then-eq-clause-there c =
    stands_here (plain c.args.key.now) c.pairs.place c.args.pairs.now c.index-pairs-place.result c.pairs-test.true c.index-pairs-place.is c.pairs.invariant (sym c.eq.ensures ∙ c.if-eq.true)

pub pairs-preserved : goal.pairs-preserved
pairs-preserved c =
    subst (λ n. has_key (plain c.args.key.now) (map pair_of (take n c.args.pairs.now)) ≡ false) (sym (add-one c.pairs.place))
    (passed_more (plain c.args.key.now) c.pairs.place c.args.pairs.now c.index-pairs-place.result c.pairs-test.true c.index-pairs-place.is c.pairs.invariant (sym c.eq.ensures ∙ c.if-eq.false))

pub returns-clause-none : goal.returns-clause-none
returns-clause-none c = λ none. none_here (plain c.args.key.now) c.pairs.place c.args.pairs.now c.pairs-test.false c.pairs.invariant
