use Rattle.std.proofs.Common.{◌<◌, ◌≤◌, ◌++◌, length, refl, rules}
use Rattle.rb_model.specs.declared.value.Value.{Value as Held}
use Rattle.rb_model.specs.Values.{Value as Val}
use Rattle.rb_model.specs.Doing.{pair}
use Rattle.rb_model.specs.Moving.{refs_in, refs_in_pairs}
use Rattle.publish_barrier.specs.Gathers.{IsAddressed}
use Rattle.publish_barrier.proofs.Rows.{all_done, both_wait, none_yet, one_more, pair_refs_more}
use Rattle.publish_barrier.proofs.placing.place_pairs.Goals as goal

pub pairs-init : goal.pairs-init
pairs-init g c =
    none_yet (Held × Held) (Val × Val) pair refs_in_pairs (λ (p : Held × Held). refs_in p.0 ++ refs_in p.1) pair_refs_more (IsAddressed c.args.heap.now c.args.known.now.refs)
    c.args.pairs.now.items c.args.pairs.now.items c.args.waiting.now.items c.args.waiting.now.items 0 refl refl refl

pub pairs-preserved : goal.pairs-preserved
pairs-preserved g c =
    let within : c.pairs.at < length c.pairs.pairs.items = search rules in
    one_more (Held × Held) (Val × Val) pair refs_in_pairs (λ (p : Held × Held). refs_in p.0 ++ refs_in p.1) pair_refs_more (IsAddressed c.args.heap.now c.args.known.now.refs)
    c.args.pairs.now.items c.pairs.pairs.items c.args.waiting.now.items c.pairs.waiting.items c.pairs.at
    c.index_mut.result.now c.place_pair.new.row c.place_pair.new.waiting.items within c.index_mut.ensures.value
    c.in_ok-place_pair.ensures.pair
    (both_wait c.place_pair.new.waiting.items c.pairs.waiting.items (refs_in c.place_pair.new.row.0) (refs_in c.place_pair.new.row.1)
    c.in_ok-place_pair.ensures.waits) c.in_ok-place_pair.ensures.addressed c.pairs.invariant

pub returns : goal.returns
returns g c =
    let past : length c.pairs.pairs.items ≤ c.pairs.at = search rules in
    let all =
    all_done (Held × Held) (Val × Val) pair refs_in_pairs (λ (p : Held × Held). refs_in p.0 ++ refs_in p.1) pair_refs_more (IsAddressed c.args.heap.now c.args.known.now.refs)
    c.args.pairs.now.items c.pairs.pairs.items c.args.waiting.now.items c.pairs.waiting.items c.pairs.at past c.pairs.invariant in
    record { pairs = c.pairs.invariant.same; waits = all.0; addressed = all.1 }
