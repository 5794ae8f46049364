use Rattle.std.proofs.Common.{◌≡◌, false, map, take, sym, subst, add-one}
use Rattle.rb_model.specs.Doing.{slot}
use Rattle.thing_store.specs.Fields.{has_field}
use Rattle.thing_store.proofs.Fields.{none_here, passed_more, stands_here}
use Rattle.thing_store.proofs.objects.place_of.Goals as goal

pub returns-then-found-name-clause-there : goal.returns-then-found-name-clause-there
returns-then-found-name-clause-there c =
    stands_here c.args.name c.fields.place c.args.fields.now c.index-fields-place.result c.fields-test.true c.index-fields-place.is c.fields.invariant c.if-found-name.true

pub fields-preserved : goal.fields-preserved
fields-preserved c =
    subst (λ n. has_field c.args.name (map slot (take n c.args.fields.now)) ≡ false) (sym (add-one c.fields.place))
    (passed_more c.args.name c.fields.place c.args.fields.now c.index-fields-place.result c.fields-test.true c.index-fields-place.is c.fields.invariant c.if-found-name.false)

pub returns-clause-none : goal.returns-clause-none
returns-clause-none c = λ none. none_here c.args.name c.fields.place c.args.fields.now c.fields-test.false c.fields.invariant
