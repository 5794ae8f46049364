use Rattle.std.proofs.Common.{◌≤◌, ◌++◌, ◌∙◌, length, refl, ap, subst, arith, take, drop}
use Rattle.heap_core.specs.Heaps.{holder}
use Rattle.heap_core.specs.View.{Holder}
use Rattle.shape_intern.proofs.Stores.{in_region, lay_all, lay_next, lay_none, long_enough, region_below, same_words}
use Rattle.shape_intern.proofs.laying.lay.Goals as goal

pub words-init : goal.words-init
words-init g c = record { of = refl; laid = λ ws own. lay_none (holder c.args.pass.now) c.args.at ws own }

pub words-preserved : goal.words-preserved
words-preserved g c = record {
  of = c.store_own.ensures.of ∙ c.words.invariant.of;
  laid = λ ws own. lay_next (holder c.args.pass.now) (holder c.words.pass) _ c.args.at c.words.i 0 c.args.words.now ws c.words-test.true (subst (λ vs. length c.args.words.now ≤ length vs) (same_words (holder c.args.pass.now) c.args.at c.requires.room.0 ws c.requires.room.1 own) c.requires.room.2) (c.words.invariant.laid ws own) c.store_own.ensures.stored;
}

pub store_own-requires : goal.store_own-requires
store_own-requires g c =
    let room = c.requires.room in record {
      of = c.words.invariant.of ∙ c.requires.of;
      own = in_region (holder c.words.pass) c.args.at c.words.i (take c.words.i c.args.words.now ++ drop c.words.i room.0) (ap (λ (k : Holder). k.own) (c.words.invariant.laid room.0 room.1)) (long_enough c.args.words.now room.0 c.words.i c.words-test.true room.2);
    }

pub overflow_add-at : goal.overflow_add-at
overflow_add-at g c =
    let room = c.requires.room in
    let below = region_below c.args.heap.now c.args.pass.now c.args.at room.0 c.requires.of room.1 in
    let long = room.2 in
    let lt = c.words-test.true in
    omega (arith, below, long, lt)

pub returns : goal.returns
returns g c = record {
  of = c.words.invariant.of;
  laid = λ ws own. lay_all (holder c.args.pass.now) (holder c.words.pass) c.args.at c.words.i c.args.words.now ws c.words.auto.i-end c.words-test.false (c.words.invariant.laid ws own);
}
