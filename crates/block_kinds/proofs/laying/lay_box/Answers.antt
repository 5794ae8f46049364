use Rattle.std.proofs.Common.{◌≡◌, ap, rules, to_z, of_z, w64, sym, subst, ◌∙◌, ◌+◌, inl, arith}
use Rattle.typed_location.specs.Word.{twos_complement}
use Rattle.heap_core.specs.Heaps.{holder}
use Rattle.heap_core.specs.View.{InOwn}
use Rattle.block_kinds.proofs.Stored.{box_stored, own_stays}
use Rattle.block_kinds.proofs.Within.{in_heap}
use Rattle.block_kinds.proofs.laying.lay_box.Goals as goal

pub store_own-requires : goal.store_own-requires
store_own-requires g c = record { of = c.requires.of; own = c.requires.room c.args.at (omega arith) (omega arith) }

pub overflow_add-at : goal.overflow_add-at
overflow_add-at g c =
    let below = in_heap c.args.heap.now c.args.pass.now (c.args.at + 1) c.requires.of (inl (c.requires.room (c.args.at + 1) (omega arith) (omega arith))) in
    omega (arith, below)

pub store_own-requires-2 : goal.store_own-requires-2
store_own-requires-2 g c = record {
  of = c.store_own.ensures.of ∙ c.requires.of;
  own = subst (InOwn (c.args.at + 1)) (sym c.store_own.ensures.stored) (own_stays (holder c.args.pass.now) (c.args.at + 1) c.args.at 7 (c.requires.room (c.args.at + 1) (omega arith) (omega arith)));
}

pub returns : goal.returns
returns g c = record {
  of = c.store_own-2.ensures.of ∙ c.store_own.ensures.of;
  laid = box_stored _ _ _ c.args.at _ c.args.n c.store_own.ensures.stored c.store_own-2.ensures.stored (c.to_int_word.ensures ∙ ap (twos_complement 64) (let z : to_z w64 (of_z w64 c.args.n) ≡ c.args.n = search rules in z));
}
