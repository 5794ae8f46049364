use Rattle.std.proofs.Common.{refl, sym, subst, ap, ◌∙◌, ◌<◌, ◌≤◌, ◌+◌, ◌/◌, length, inl, arith}
use Rattle.heap_core.specs.Heaps.{holder}
use Rattle.heap_core.specs.Spelling.{byte_word}
use Rattle.heap_core.specs.View.{InOwn, with_stored}
use Rattle.block_kinds.proofs.Eights.{ceil_eight}
use Rattle.block_kinds.proofs.Stored.{own_stays, owns_more, words_begin, words_end, text_begun, text_more, text_owns}
use Rattle.block_kinds.proofs.Within.{in_heap}
use Rattle.block_kinds.proofs.laying.lay_text.Goals as goal

pub store_own-requires : goal.store_own-requires
store_own-requires g c = record { of = c.requires.of; own = c.requires.room c.args.at (omega arith) (omega arith) }

pub overflow_add-at : goal.overflow_add-at
overflow_add-at g c =
    let below = in_heap c.args.heap.now c.args.pass.now (c.args.at + 1) c.requires.of (inl (c.requires.room (c.args.at + 1) (omega arith) (omega arith))) in
    omega (arith, below)

pub store_own-requires-2 : goal.store_own-requires-2
store_own-requires-2 g c = record {
  of = c.store_own.ensures.of ∙ c.requires.of;
  own = subst (InOwn (c.args.at + 1)) (sym c.store_own.ensures.stored) (own_stays (holder c.args.pass.now) (c.args.at + 1) c.args.at 6 (c.requires.room (c.args.at + 1) (omega arith) (omega arith)));
}

pub words-init : goal.words-init
words-init g c =
    let owns = text_owns (holder c.args.pass.now) (holder c.store_own.new.pass) (holder c.store_own-2.new.pass) c.args.at ((length c.args.bytes.now + 7) / 8) 6 (length c.args.bytes.now) c.store_own.ensures.stored c.store_own-2.ensures.stored c.requires.room in
    let begun = words_begin (holder c.store_own-2.new.pass) (c.args.at + 2) ((length c.args.bytes.now + 7) / 8) c.args.bytes.now owns in
    (refl, begun.0, begun.1)

pub words-preserved : goal.words-preserved
words-preserved g c =
    let count = c.div_ceil-k-end.ensures ∙ ceil_eight (length c.args.bytes.now) in
    let lt : c.words.k < (length c.args.bytes.now + 7) / 8 = omega (arith, c.words-test.true, count) in
    let was = c.words.invariant in
    let is = c.store_own-in-words.ensures.stored ∙ ap (with_stored (holder c.words.pass) (c.args.at + 2 + c.words.k)) c.word_at.ensures in (
      c.store_own-in-words.ensures.of ∙ was.0,
      owns_more (holder c.words.pass) (holder c.store_own-in-words.new.pass) (c.args.at + 2) c.words.k ((length c.args.bytes.now + 7) / 8) (byte_word c.args.bytes.now c.words.k) is was.1 lt,
      text_more (holder c.words.pass) (holder c.store_own-in-words.new.pass) (c.args.at + 2) c.words.k ((length c.args.bytes.now + 7) / 8) c.args.bytes.now lt is ∙ was.2,
    )

pub returns : goal.returns
returns g c =
    let count = c.div_ceil-k-end.ensures ∙ ceil_eight (length c.args.bytes.now) in
    let far : (length c.args.bytes.now + 7) / 8 ≤ c.words.k = omega (arith, c.words-test.false, count) in
    let was = c.words.invariant in
    record {
      bytes = λ i. let f = c.type_inv.bytes i in omega (arith, f);
      of = was.0 ∙ (c.store_own-2.ensures.of ∙ c.store_own.ensures.of);
      laid = words_end (holder c.words.pass) _ (c.args.at + 2) c.words.k ((length c.args.bytes.now + 7) / 8) c.args.bytes.now far was.2
          ∙ text_begun (holder c.args.pass.now) (holder c.store_own.new.pass) (holder c.store_own-2.new.pass) c.args.at c.args.bytes.now c.store_own.ensures.stored c.store_own-2.ensures.stored;
    }

pub div_ceil-k-end-requires : goal.div_ceil-k-end-requires
div_ceil-k-end-requires g c = omega arith

pub overflow_add-at-in-words : goal.overflow_add-at-in-words
overflow_add-at-in-words g c =
    let below = in_heap c.args.heap.now c.args.pass.now c.args.at c.requires.of (inl (c.requires.room c.args.at (omega arith) (omega arith))) in
    omega (arith, below)

pub overflow_add-at-in-words-2 : goal.overflow_add-at-in-words-2
overflow_add-at-in-words-2 g c =
    let count = c.div_ceil-k-end.ensures ∙ ceil_eight (length c.args.bytes.now) in
    let lt : c.words.k < (length c.args.bytes.now + 7) / 8 = omega (arith, c.words-test.true, count) in
    let below = in_heap c.args.heap.now c.args.pass.now (c.args.at + 2 + c.words.k) c.requires.of (inl (c.requires.room (c.args.at + 2 + c.words.k) (omega arith) (omega (arith, lt)))) in
    omega (arith, below)

pub word_at-requires : goal.word_at-requires
word_at-requires g c =
    let count = c.div_ceil-k-end.ensures ∙ ceil_eight (length c.args.bytes.now) in
    record { within = omega (arith, c.words-test.true, count) }

pub store_own-requires-in-words : goal.store_own-requires-in-words
store_own-requires-in-words g c =
    let count = c.div_ceil-k-end.ensures ∙ ceil_eight (length c.args.bytes.now) in
    let lt : c.words.k < (length c.args.bytes.now + 7) / 8 = omega (arith, c.words-test.true, count) in
    record {
      of = c.words.invariant.0 ∙ (c.store_own-2.ensures.of ∙ (c.store_own.ensures.of ∙ c.requires.of));
      own = c.words.invariant.1 (c.args.at + 2 + c.words.k) (omega arith) (omega (arith, lt));
    }
