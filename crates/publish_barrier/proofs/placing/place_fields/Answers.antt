use Rattle.std.proofs.Common.{◌<◌, ◌≤◌, length, refl, rules}
use Rattle.rb_model.specs.declared.thing.Field.{Field as Told}
use Rattle.rb_model.specs.Doing.{slot}
use Rattle.rb_model.specs.Things.{Field}
use Rattle.rb_model.specs.Moving.{refs_in}
use Rattle.publish_barrier.specs.Leaving.{refs_in_fields}
use Rattle.publish_barrier.specs.Gathers.{IsAddressed}
use Rattle.publish_barrier.proofs.Rows.{all_done, none_yet, one_more, field_refs_more}
use Rattle.publish_barrier.proofs.placing.place_fields.Goals as goal

pub fields-init : goal.fields-init
fields-init g c =
    none_yet Told Field slot refs_in_fields (λ (f : Told). refs_in f.value) field_refs_more (IsAddressed c.args.heap.now c.args.known.now.refs)
    c.args.fields.now.items c.args.fields.now.items c.args.waiting.now.items c.args.waiting.now.items 0 refl refl refl

pub fields-preserved : goal.fields-preserved
fields-preserved g c =
    let within : c.fields.at < length c.fields.fields.items = search rules in
    one_more Told Field slot refs_in_fields (λ (f : Told). refs_in f.value) field_refs_more (IsAddressed c.args.heap.now c.args.known.now.refs)
    c.args.fields.now.items c.fields.fields.items c.args.waiting.now.items c.fields.waiting.items c.fields.at
    c.index_mut.result.now c.place_field.new.field c.place_field.new.waiting.items within c.index_mut.ensures.value
    c.in_ok-place_field.ensures.field c.in_ok-place_field.ensures.waits c.in_ok-place_field.ensures.addressed c.fields.invariant

pub returns : goal.returns
returns g c =
    let past : length c.fields.fields.items ≤ c.fields.at = search rules in
    let all =
    all_done Told Field slot refs_in_fields (λ (f : Told). refs_in f.value) field_refs_more (IsAddressed c.args.heap.now c.args.known.now.refs)
    c.args.fields.now.items c.fields.fields.items c.args.waiting.now.items c.fields.waiting.items c.fields.at past c.fields.invariant in
    record { fields = c.fields.invariant.same; waits = all.0; addressed = all.1 }
