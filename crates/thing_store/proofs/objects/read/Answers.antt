use Rattle.std.proofs.Common.{◌≡◌, false, map, take, sym, subst, add-one}
use Rattle.rb_model.specs.Doing.{slot}
use Rattle.thing_store.specs.Fields.{has_field}
use Rattle.thing_store.proofs.Fields.{absent_value, none_here, passed_more, stands_here, stands_value, told}
use Rattle.thing_store.proofs.objects.read.Goals as goal

pub returns-then-found-name : goal.returns-then-found-name
returns-then-found-name c =
    let there = stands_here c.args.name c.fields.found-index c.args.fields.now c.found-item.result c.fields-test.true c.found-item.is c.fields.invariant c.if-found-name.true in
    told c.share.result _ _ c.share.ensures.value
    (stands_value c.args.name c.fields.found-index c.args.fields.now c.found-item.result there c.found-item.is)

pub fields-preserved : goal.fields-preserved
fields-preserved c =
    subst (λ n. has_field c.args.name (map slot (take n c.args.fields.now)) ≡ false) (sym (add-one c.fields.found-index))
    (passed_more c.args.name c.fields.found-index c.args.fields.now c.found-item.result c.fields-test.true c.found-item.is c.fields.invariant c.if-found-name.false)

pub returns : goal.returns
returns c = sym (absent_value c.args.name c.args.fields.now (none_here c.args.name c.fields.found-index c.args.fields.now c.fields-test.false c.fields.invariant))
