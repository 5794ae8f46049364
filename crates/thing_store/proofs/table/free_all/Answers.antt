use Rattle.std.proofs.Common.{drop, get_or, map, ap, ◌∙◌, refl, add-one, arith, suc}
use Rattle.std.proofs.lemmas.List.{length-map}
use Rattle.indexmap.specs.Layout.{length-set_value_at, set_value_at}
use Rattle.thing_store.specs.Kept.{item_of}
use Rattle.thing_store.specs.Counted.{freed_item, freed_thing}
use Rattle.thing_store.proofs.Freeing.{all_freed, freed_done, freed_next, freed_places, mutex_within}
use Rattle.thing_store.proofs.Tabled.{altered_set}
use Rattle.thing_store.proofs.table.free_all.Goals as goal

pub places-init : goal.places-init
places-init c =
    let z = map item_of c.args.rows.now.entries in
    record { left = ap (λ ps. freed_places c.args.thread ps z) c.requires ∙ all_freed c.args.thread z; many = refl }

pub index_mut-requires : goal.index_mut-requires
index_mut-requires c =
    let within = mutex_within (map item_of c.args.rows.now.entries) c.args.places.now c.places.place-index c.requires c.places-test.true in
    let many = length-map c.args.rows.now.entries item_of in
    omega (arith, within, many, c.places.invariant.many)

pub places-preserved : goal.places-preserved
places-preserved c =
    let at = get_or c.args.places.now c.places.place-index 0 in
    let z = map item_of c.places.rows.entries in
    record {
      left =
          ap (λ n. freed_places c.args.thread (drop n c.args.places.now) (map item_of (set_value_at c.places.rows.entries at c.free.new.self))) (add-one c.places.place-index)
          ∙ ap (freed_places c.args.thread (drop (suc c.places.place-index) c.args.places.now)) (altered_set (freed_thing c.args.thread) c.places.rows.entries at c.index_mut.result.now c.free.new.self c.index_mut.ensures.value c.free.ensures)
          ∙ freed_next c.args.thread c.args.places.now c.places.place-index z (map (freed_item c.args.thread) (map item_of c.args.rows.now.entries)) c.places-test.true c.places.invariant.left;
      many = length-set_value_at c.places.rows.entries at c.free.new.self ∙ c.places.invariant.many;
    }

pub returns : goal.returns
returns c = freed_done c.args.thread c.args.places.now c.places.place-index (map item_of c.places.rows.entries) (map (freed_item c.args.thread) (map item_of c.args.rows.now.entries)) c.places-test.false c.places.invariant.left
