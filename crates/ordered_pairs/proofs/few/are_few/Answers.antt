use Rattle.std.proofs.Common.{◌≡◌, None, false, map, refl, sym, ◌∙◌, subst, arith}
use Rattle.std.specs.Prelude.{Option, Some, is_some}
use Rattle.std.specs.List.{IsDistinct}
use Rattle.std.proofs.lemmas.List.{length-map, take_all}
use Rattle.rb_model.specs.Values.{same}
use Rattle.rb_model.specs.Things.{key_of}
use Rattle.ordered_pairs.specs.Order.{pair_of}
use Rattle.ordered_pairs.proofs.Row.{distinct_more, distinct_none}
use Rattle.ordered_pairs.proofs.few.are_few.Goals as goal

is_none : {X : Type 0} (o : Option X) → is_some o ≡ false → o ≡ None
is_none None e = refl
is_none (Some x) e = absurd (cc)

pub pairs-init : goal.pairs-init
pairs-init c = distinct_none

pub pairs-preserved : goal.pairs-preserved
pairs-preserved c =
    let none = c.place_in.ensures.none (is_none c.place_in.result (sym c.is_some.ensures ∙ c.if-is_some.false)) in
    distinct_more c.pairs.place c.args.pairs.now c.index-pairs-place.result c.pairs-test.true c.index-pairs-place.is c.pairs.invariant none

pub returns : goal.returns
returns c = λ e. (
  subst (λ its. IsDistinct same (map key_of (map pair_of its))) (take_all c.pairs.place c.args.pairs.now c.pairs-test.false) c.pairs.invariant,
  let long = length-map c.args.pairs.now pair_of in omega (arith, long, c.if-pairs-gt-FEW.false),
)
