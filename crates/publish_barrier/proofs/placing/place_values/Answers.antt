use Rattle.std.proofs.Common.{◌<◌, ◌≤◌, length, refl, rules}
use Rattle.rb_model.specs.declared.value.Value.{Value as Held}
use Rattle.rb_model.specs.Values.{Value as Val, plain}
use Rattle.rb_model.specs.Moving.{refs_in, refs_in_all}
use Rattle.publish_barrier.specs.Gathers.{IsAddressed}
use Rattle.publish_barrier.proofs.Rows.{all_done, none_yet, one_more, refs_more}
use Rattle.publish_barrier.proofs.placing.place_values.Goals as goal

pub values-init : goal.values-init
values-init g c =
    none_yet Held Val plain refs_in_all refs_in refs_more (IsAddressed c.args.heap.now c.args.known.now.refs)
    c.args.values.now.items c.args.values.now.items c.args.waiting.now.items c.args.waiting.now.items 0 refl refl refl

pub values-preserved : goal.values-preserved
values-preserved g c =
    let within : c.values.at < length c.values.values.items = search rules in
    one_more Held Val plain refs_in_all refs_in refs_more (IsAddressed c.args.heap.now c.args.known.now.refs)
    c.args.values.now.items c.values.values.items c.args.waiting.now.items c.values.waiting.items c.values.at
    c.index_mut.result.now c.place_value.new.value c.place_value.new.waiting.items within c.index_mut.ensures.value
    c.in_ok-place_value.ensures.value c.in_ok-place_value.ensures.waits c.in_ok-place_value.ensures.addressed c.values.invariant

pub returns : goal.returns
returns g c =
    let past : length c.values.values.items ≤ c.values.at = search rules in
    let all =
    all_done Held Val plain refs_in_all refs_in refs_more (IsAddressed c.args.heap.now c.args.known.now.refs)
    c.args.values.now.items c.values.values.items c.args.waiting.now.items c.values.waiting.items c.values.at past c.values.invariant in
    record { values = c.values.invariant.same; waits = all.0; addressed = all.1 }
