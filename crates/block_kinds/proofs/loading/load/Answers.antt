use Rattle.std.proofs.Common.{◌≡◌, sym, subst, ◌∙◌, ◌+◌, ℤ, refl, FitsSigned, w64, to_z, of_z, rules, arith}
use Rattle.typed_location.specs.Word.{Fits as FitsWord}
use Rattle.heap_core.specs.Heaps.{holder}
use Rattle.heap_core.specs.Passes.{FixedIs}
use Rattle.heap_core.specs.Room.{OwnIs}
use Rattle.block_kinds.specs.Reading.{IsLoaded}
use Rattle.block_kinds.specs.declared.loaded.Loaded.TheVariants as loaded
use Rattle.block_kinds.proofs.Naming.{MayLoad, named_is_said, nil_loaded, false_loaded, true_loaded, small_loaded, small_fits, symbol_loaded, text_loaded, boxed_loads, boxed_loaded, thing_loads, thing_loaded}
use Rattle.block_kinds.proofs.Within.{few_words, in_heap, says_of}
use Rattle.block_kinds.proofs.loading.load.Goals as goal

pub unreachable-requires : goal.unreachable-requires
unreachable-requires g c =
    let said = named_is_said (holder c.args.pass.now) c.args.pass.now.badge.table_id.words c.args.pass.now.rests.1 (few_words c.args.heap.now c.args.pass.now c.requires.of) c.args.word c.requires.named.0 c.requires.named.1 in
    c.in_default.ensures.none said.0 said.1 said.2

pub returns-in-Nil : goal.returns-in-Nil
returns-in-Nil g c =
    let says = says_of c.args.heap.now c.args.pass.now c.requires.of c.one_word.ensures c.args.word c.in-Some.found _ c.in-Some.ensures.found c.in-Nil.is in
    record { of = refl; same = refl; loaded = λ v n. nil_loaded (holder c.args.pass.now) v (says v n) }

pub returns-in-False : goal.returns-in-False
returns-in-False g c =
    let says = says_of c.args.heap.now c.args.pass.now c.requires.of c.one_word.ensures c.args.word c.in-Some.found _ c.in-Some.ensures.found c.in-False.is in
    record { of = refl; same = refl; loaded = λ v n. false_loaded (holder c.args.pass.now) v (says v n) }

pub returns-in-True : goal.returns-in-True
returns-in-True g c =
    let says = says_of c.args.heap.now c.args.pass.now c.requires.of c.one_word.ensures c.args.word c.in-Some.found _ c.in-Some.ensures.found c.in-True.is in
    record { of = refl; same = refl; loaded = λ v n. true_loaded (holder c.args.pass.now) v (says v n) }

pub returns-in-Sym : goal.returns-in-Sym
returns-in-Sym g c =
    let says = says_of c.args.heap.now c.args.pass.now c.requires.of c.one_word.ensures c.args.word c.in-Some.found _ c.in-Some.ensures.found c.in-Sym.is in
    record { of = refl; same = refl; loaded = λ v n. symbol_loaded (holder c.args.pass.now) v _ (says v n) }

pub returns-in-Text : goal.returns-in-Text
returns-in-Text g c =
    let says = says_of c.args.heap.now c.args.pass.now c.requires.of c.one_word.ensures c.args.word c.in-Some.found _ c.in-Some.ensures.found c.in-Text.is in
    record { of = refl; same = refl; loaded = λ v n. text_loaded (holder c.args.pass.now) v _ (says v n) }

pub returns-in-Small : goal.returns-in-Small
returns-in-Small g c =
    let says = says_of c.args.heap.now c.args.pass.now c.requires.of c.one_word.ensures c.args.word c.in-Some.found _ c.in-Some.ensures.found c.in-Small.is in
    let fits : FitsSigned w64 c.in-Small.n = small_fits c.in-Small.n (subst FitsWord c.in-Small.is c.in-Some.ensures.found.0) in
    let same : to_z w64 (of_z w64 c.in-Small.n) ≡ c.in-Small.n = search (rules, fits) in
    record { of = refl; same = refl; loaded = λ v n. subst (λ (m : ℤ). IsLoaded (holder c.args.pass.now) v (loaded.Int m)) (sym same) (small_loaded (holder c.args.pass.now) v c.in-Small.n (says v n)) }

pub overflow_add-at : goal.overflow_add-at
overflow_add-at g c = let below = in_heap c.args.heap.now c.args.pass.now (c.in-Boxed.at + 1) c.requires.of (boxed_loads (holder c.args.pass.now) c.requires.named.0 c.in-Boxed.at (says_of c.args.heap.now c.args.pass.now c.requires.of c.one_word.ensures c.args.word c.in-Some.found _ c.in-Some.ensures.found c.in-Boxed.is c.requires.named.0 c.requires.named.1)) in omega (arith, below)

pub load_still-bits-requires : goal.load_still-bits-requires
load_still-bits-requires g c = record { of = c.requires.of; still = boxed_loads (holder c.args.pass.now) c.requires.named.0 c.in-Boxed.at (says_of c.args.heap.now c.args.pass.now c.requires.of c.one_word.ensures c.args.word c.in-Some.found _ c.in-Some.ensures.found c.in-Boxed.is c.requires.named.0 c.requires.named.1) }

pub overflow_add-at-in-Thing : goal.overflow_add-at-in-Thing
overflow_add-at-in-Thing g c = let below = in_heap c.args.heap.now c.args.pass.now (c.in-Thing.at + 1) c.requires.of (thing_loads (holder c.args.pass.now) c.requires.named.0 c.in-Thing.at (says_of c.args.heap.now c.args.pass.now c.requires.of c.one_word.ensures c.args.word c.in-Some.found _ c.in-Some.ensures.found c.in-Thing.is c.requires.named.0 c.requires.named.1)).0 in omega (arith, below)

pub load_still-thread-requires : goal.load_still-thread-requires
load_still-thread-requires g c = record { of = c.requires.of; still = (thing_loads (holder c.args.pass.now) c.requires.named.0 c.in-Thing.at (says_of c.args.heap.now c.args.pass.now c.requires.of c.one_word.ensures c.args.word c.in-Some.found _ c.in-Some.ensures.found c.in-Thing.is c.requires.named.0 c.requires.named.1)).0 }

pub overflow_add-at-in-Thing-2 : goal.overflow_add-at-in-Thing-2
overflow_add-at-in-Thing-2 g c = let below = in_heap c.args.heap.now c.args.pass.now (c.in-Thing.at + 2) c.requires.of (thing_loads (holder c.args.pass.now) c.requires.named.0 c.in-Thing.at (says_of c.args.heap.now c.args.pass.now c.requires.of c.one_word.ensures c.args.word c.in-Some.found _ c.in-Some.ensures.found c.in-Thing.is c.requires.named.0 c.requires.named.1)).1 in omega (arith, below)

pub load_still-serial-requires : goal.load_still-serial-requires
load_still-serial-requires g c = record {
  of = c.load_still-thread.ensures.of ∙ c.requires.of;
  still = subst (λ k. MayLoad k (c.in-Thing.at + 2)) (sym c.load_still-thread.ensures.same) (thing_loads (holder c.args.pass.now) c.requires.named.0 c.in-Thing.at (says_of c.args.heap.now c.args.pass.now c.requires.of c.one_word.ensures c.args.word c.in-Some.found _ c.in-Some.ensures.found c.in-Thing.is c.requires.named.0 c.requires.named.1)).1;
}

pub returns-in-Boxed : goal.returns-in-Boxed
returns-in-Boxed g c =
    let says = says_of c.args.heap.now c.args.pass.now c.requires.of c.one_word.ensures c.args.word c.in-Some.found _ c.in-Some.ensures.found c.in-Boxed.is in
    let fits : FitsSigned w64 c.from_int_word.result = search rules in
    let same : to_z w64 (of_z w64 c.from_int_word.result) ≡ c.from_int_word.result = search rules in
    record { of = c.load_still-bits.ensures.of; same = c.load_still-bits.ensures.same; loaded = λ v n. subst (λ (m : ℤ). IsLoaded (holder c.args.pass.now) v (loaded.Int m)) (sym same) (boxed_loaded (holder c.args.pass.now) c.one_int_word.ensures v c.in-Boxed.at c.load_still-bits.result c.from_int_word.result n.0 (says v n) c.load_still-bits.ensures.own c.load_still-bits.ensures.fixed fits c.from_int_word.ensures) }

pub returns-in-Thing : goal.returns-in-Thing
returns-in-Thing g c =
    let says = says_of c.args.heap.now c.args.pass.now c.requires.of c.one_word.ensures c.args.word c.in-Some.found _ c.in-Some.ensures.found c.in-Thing.is in
    record { of = c.load_still-serial.ensures.of ∙ c.load_still-thread.ensures.of; same = c.load_still-serial.ensures.same ∙ c.load_still-thread.ensures.same; loaded = λ v n. thing_loaded (holder c.args.pass.now) v c.in-Thing.at c.load_still-thread.result c.load_still-serial.result (says v n) c.load_still-thread.ensures.own c.load_still-thread.ensures.fixed (subst (λ k. OwnIs k (c.in-Thing.at + 2) c.load_still-serial.result) c.load_still-thread.ensures.same c.load_still-serial.ensures.own) (subst (λ k. FixedIs k (c.in-Thing.at + 2) c.load_still-serial.result) c.load_still-thread.ensures.same c.load_still-serial.ensures.fixed) }

pub unreachable-unreachable : goal.unreachable-unreachable
unreachable-unreachable g c = c.unreachable.result
