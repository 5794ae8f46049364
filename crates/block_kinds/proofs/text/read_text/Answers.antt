use Rattle.std.proofs.Common.{ap, sym, subst, refl, ◌∙◌, ◌<◌, ◌≤◌, ◌+◌, ◌*◌, ◌++◌, ◌/◌, ◌-◌, min, drop, length, arith}
use Rattle.heap_core.specs.Blocks.{TextAt}
use Rattle.heap_core.specs.Passes.{FixedIs}
use Rattle.heap_core.specs.Room.{OwnIs}
use Rattle.heap_core.specs.Heaps.{holder}
use Rattle.block_kinds.specs.Reading.{CanRead}
use Rattle.block_kinds.proofs.Eights.{ceil_eight, read_step, read_all}
use Rattle.block_kinds.proofs.Naming.{MayLoad}
use Rattle.block_kinds.proofs.Texts.{all_read, length_loads, length_is, word_loads, word_is}
use Rattle.block_kinds.proofs.Within.{in_heap}
use Rattle.block_kinds.proofs.text.read_text.Goals as goal

pub overflow_add-at : goal.overflow_add-at
overflow_add-at g c =
    let below = in_heap c.args.heap.now c.args.pass.now (c.args.at + 1) c.requires.of (length_loads (holder c.args.pass.now) c.args.at c.requires.known.0 c.requires.known.1) in
    omega (arith, below)

pub load_still-length-requires : goal.load_still-length-requires
load_still-length-requires g c = record { of = c.requires.of; still = length_loads (holder c.args.pass.now) c.args.at c.requires.known.0 c.requires.known.1 }

pub words-init : goal.words-init
words-init g c = (refl, refl, λ bytes all reads. ap (λ l. l ++ bytes) c.new-bytes.ensures.items)

pub load_still-word-requires : goal.load_still-word-requires
load_still-word-requires g c =
    let bytes = c.requires.known.0 in
    let long = length_is (holder c.args.pass.now) c.args.at bytes c.requires.known.1 c.load_still-length.result c.load_still-length.ensures.own c.load_still-length.ensures.fixed in
    let count = c.div_ceil-k-end.ensures ∙ ceil_eight c.load_still-length.result in
    let lt : c.words.k < (length bytes + 7) / 8 = omega (arith, c.words-test.true, count, long) in
    record {
      of = c.words.invariant.0 ∙ (c.load_still-length.ensures.of ∙ c.requires.of);
      still = subst (λ k. MayLoad k (c.args.at + 2 + c.words.k)) (sym (c.words.invariant.1 ∙ c.load_still-length.ensures.same)) (word_loads (holder c.args.pass.now) c.args.at bytes c.requires.known.1 c.words.k lt);
    }

pub words-preserved : goal.words-preserved
words-preserved g c =
    let count = c.div_ceil-k-end.ensures ∙ ceil_eight c.load_still-length.result in
    let lt : c.words.k < (c.load_still-length.result + 7) / 8 = omega (arith, c.words-test.true, count) in
    let same = c.words.invariant.1 ∙ c.load_still-length.ensures.same in (
      c.load_still-word.ensures.of ∙ c.words.invariant.0,
      c.load_still-word.ensures.same ∙ c.words.invariant.1,
      λ bytes all reads.
          let had = subst (λ k. CanRead k (TextAt bytes c.args.at)) c.load_still-length.ensures.same reads in
          let long = length_is (holder c.args.pass.now) c.args.at bytes had c.load_still-length.result c.load_still-length.ensures.own c.load_still-length.ensures.fixed in
          let word = word_is (holder c.args.pass.now) c.args.at bytes had c.words.k c.load_still-word.result (omega (arith, lt, long))
          (subst (λ k. OwnIs k (c.args.at + 2 + c.words.k) c.load_still-word.result) same c.load_still-word.ensures.own)
          (subst (λ k. FixedIs k (c.args.at + 2 + c.words.k) c.load_still-word.result) same c.load_still-word.ensures.fixed) in
          ap (λ l. l ++ drop (8 * (c.words.k + 1)) bytes) c.in_ok-append_bytes.ensures.appended
          ∙ read_step c.words.bytes.items bytes c.words.k c.min.result c.load_still-word.result all (c.words.invariant.2 bytes all reads) word (c.min.ensures ∙ ap (λ n. min (n - 8 * c.words.k) 8) long),
    )

pub div_ceil-k-end-requires : goal.div_ceil-k-end-requires
div_ceil-k-end-requires g c = omega arith

pub overflow_add-at-in-words : goal.overflow_add-at-in-words
overflow_add-at-in-words g c =
    let below = in_heap c.args.heap.now c.args.pass.now (c.args.at + 1) c.requires.of (length_loads (holder c.args.pass.now) c.args.at c.requires.known.0 c.requires.known.1) in
    omega (arith, below)

pub overflow_add-at-in-words-2 : goal.overflow_add-at-in-words-2
overflow_add-at-in-words-2 g c =
    let bytes = c.requires.known.0 in
    let long = length_is (holder c.args.pass.now) c.args.at bytes c.requires.known.1 c.load_still-length.result c.load_still-length.ensures.own c.load_still-length.ensures.fixed in
    let count = c.div_ceil-k-end.ensures ∙ ceil_eight c.load_still-length.result in
    let lt : c.words.k < (length bytes + 7) / 8 = omega (arith, c.words-test.true, count, long) in
    let below = in_heap c.args.heap.now c.args.pass.now (c.args.at + 2 + c.words.k) c.requires.of (word_loads (holder c.args.pass.now) c.args.at bytes c.requires.known.1 c.words.k lt) in
    omega (arith, below)

pub overflow_mul-k : goal.overflow_mul-k
overflow_mul-k g c =
    let count = c.div_ceil-k-end.ensures ∙ ceil_eight c.load_still-length.result in
    let few = c.load_still-length.type_inv in
    omega (arith, c.words-test.true, count, few)

pub overflow_sub-length : goal.overflow_sub-length
overflow_sub-length g c =
    let count = c.div_ceil-k-end.ensures ∙ ceil_eight c.load_still-length.result in
    omega (arith, c.words-test.true, count)

pub append_bytes-requires : goal.append_bytes-requires
append_bytes-requires g c = record { few = omega (arith, c.min.ensures) }

pub returns-in_err-append_bytes-clause-of : goal.returns-in_err-append_bytes-clause-of
returns-in_err-append_bytes-clause-of g c = c.load_still-word.ensures.of ∙ (c.words.invariant.0 ∙ c.load_still-length.ensures.of)

pub returns-in_err-append_bytes-clause-same : goal.returns-in_err-append_bytes-clause-same
returns-in_err-append_bytes-clause-same g c = c.load_still-word.ensures.same ∙ (c.words.invariant.1 ∙ c.load_still-length.ensures.same)

pub returns : goal.returns
returns g c =
    let count = c.div_ceil-k-end.ensures ∙ ceil_eight c.load_still-length.result in
    let far : (c.load_still-length.result + 7) / 8 ≤ c.words.k = omega (arith, c.words-test.false, count) in
    record {
      of = c.words.invariant.0 ∙ c.load_still-length.ensures.of;
      same = c.words.invariant.1 ∙ c.load_still-length.ensures.same;
      read = all_read c.from_vec.result c.words.bytes.items c.from_vec.ensures (λ bytes all reads.
          let long = length_is (holder c.args.pass.now) c.args.at bytes reads c.load_still-length.result c.load_still-length.ensures.own c.load_still-length.ensures.fixed in
          read_all c.words.bytes.items bytes c.words.k (c.words.invariant.2 bytes all (subst (λ k. CanRead k (TextAt bytes c.args.at)) (sym c.load_still-length.ensures.same) reads)) (omega (arith, far, long)));
    }
