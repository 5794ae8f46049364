use Rattle.std.proofs.Common.{◌+◌, inl, arith, ◌∙◌}
use Rattle.heap_core.specs.Heaps.{holder}
use Rattle.block_kinds.proofs.Stored.{mutex_stored, owns_after}
use Rattle.block_kinds.proofs.Within.{in_heap}
use Rattle.block_kinds.proofs.mutex.lay_mutex.Goals as goal

pub store_own-requires : goal.store_own-requires
store_own-requires g c = record { of = c.requires.of; own = c.requires.room c.args.at (omega arith) (omega arith) }

pub overflow_add-at : goal.overflow_add-at
overflow_add-at g c =
    let below = in_heap c.args.heap.now c.args.pass.now (c.args.at + 3) c.requires.of (inl (c.requires.room (c.args.at + 3) (omega arith) (omega arith))) in
    omega (arith, below)

pub overflow_add-at-2 : goal.overflow_add-at-2
overflow_add-at-2 g c =
    let below = in_heap c.args.heap.now c.args.pass.now (c.args.at + 3) c.requires.of (inl (c.requires.room (c.args.at + 3) (omega arith) (omega arith))) in
    omega (arith, below)

pub overflow_add-at-3 : goal.overflow_add-at-3
overflow_add-at-3 g c =
    let below = in_heap c.args.heap.now c.args.pass.now (c.args.at + 3) c.requires.of (inl (c.requires.room (c.args.at + 3) (omega arith) (omega arith))) in
    omega (arith, below)

pub store_own-requires-2 : goal.store_own-requires-2
store_own-requires-2 g c = record {
  of = c.store_own.ensures.of ∙ c.requires.of;
  own = owns_after (holder c.args.pass.now) _ (c.args.at + 1) c.args.at 4 c.store_own.ensures.stored (c.requires.room (c.args.at + 1) (omega arith) (omega arith));
}

pub store_own-requires-3 : goal.store_own-requires-3
store_own-requires-3 g c = record {
  of = c.store_own-2.ensures.of ∙ (c.store_own.ensures.of ∙ c.requires.of);
  own = owns_after _ _ (c.args.at + 2) (c.args.at + 1) c.args.id.thread c.store_own-2.ensures.stored
      (owns_after (holder c.args.pass.now) _ (c.args.at + 2) c.args.at 4 c.store_own.ensures.stored (c.requires.room (c.args.at + 2) (omega arith) (omega arith)));
}

pub store_own-requires-4 : goal.store_own-requires-4
store_own-requires-4 g c = record {
  of = c.store_own-3.ensures.of ∙ (c.store_own-2.ensures.of ∙ (c.store_own.ensures.of ∙ c.requires.of));
  own = owns_after _ _ (c.args.at + 3) (c.args.at + 2) c.args.id.serial c.store_own-3.ensures.stored
      (owns_after _ _ (c.args.at + 3) (c.args.at + 1) c.args.id.thread c.store_own-2.ensures.stored
      (owns_after (holder c.args.pass.now) _ (c.args.at + 3) c.args.at 4 c.store_own.ensures.stored (c.requires.room (c.args.at + 3) (omega arith) (omega arith))));
}

pub returns : goal.returns
returns g c = record {
  of = c.store_own-4.ensures.of ∙ (c.store_own-3.ensures.of ∙ (c.store_own-2.ensures.of ∙ c.store_own.ensures.of));
  laid = mutex_stored (holder c.args.pass.now) _ _ _ _ c.args.at _ c.args.id c.args.owner c.store_own.ensures.stored c.store_own-2.ensures.stored c.store_own-3.ensures.stored c.store_own-4.ensures.stored c.owner_word.ensures;
}
