use Rattle.std.proofs.Common.{ℤ, w64, to_z, of_z, rules, refl, ap, sym, subst, ◌∙◌, ◌≡◌, ℕ, List, inl, arith}
use Rattle.rb_model.specs.Values.{Int, plain}
use Rattle.rb_model.specs.declared.value.Value.TheVariants as held
use Rattle.heap_core.specs.Charges.{blocks}
use Rattle.heap_core.specs.Heaps.{holder}
use Rattle.heap_core.specs.Places.{text_words}
use Rattle.block_kinds.specs.Built.{Builds, HasPlace, OwnsWords, text_block, with_words}
use Rattle.block_kinds.specs.Reading.{AreBytes}
use Rattle.block_kinds.proofs.Building.{nil_built, false_built, true_built, symbol_built, thing_built, text_built}
use Rattle.block_kinds.proofs.Naming.{low}
use Rattle.block_kinds.proofs.Within.{in_heap}
use Rattle.block_kinds.proofs.laying.build.Goals as goal

pub returns-in-Nil : goal.returns-in-Nil
returns-in-Nil g c =
    let b = subst (Builds (holder c.args.pass.now) (holder c.args.pass.now) c.args.at c.to_any_word.result) (sym c.in-Nil.is) (nil_built (holder c.args.pass.now) c.args.at _ c.to_any_word.ensures) in
    record { of = refl; laid = b.0; spells = b.1; named = b.2 }

pub returns-in-False : goal.returns-in-False
returns-in-False g c =
    let b = subst (Builds (holder c.args.pass.now) (holder c.args.pass.now) c.args.at c.to_any_word-in-False.result) (sym c.in-False.is) (false_built (holder c.args.pass.now) c.args.at _ c.to_any_word-in-False.ensures) in
    record { of = refl; laid = b.0; spells = b.1; named = b.2 }

pub returns-in-True : goal.returns-in-True
returns-in-True g c =
    let b = subst (Builds (holder c.args.pass.now) (holder c.args.pass.now) c.args.at c.to_any_word-in-True.result) (sym c.in-True.is) (true_built (holder c.args.pass.now) c.args.at _ c.to_any_word-in-True.ensures) in
    record { of = refl; laid = b.0; spells = b.1; named = b.2 }

pub returns-in-Sym : goal.returns-in-Sym
returns-in-Sym g c =
    let b = subst (Builds (holder c.args.pass.now) (holder c.args.pass.now) c.args.at c.symbol_word.result) (sym c.in-Sym.is) (symbol_built (holder c.args.pass.now) c.args.at _ c.in-Sym.name c.symbol_word.ensures.fits c.symbol_word.ensures.word) in
    record { of = refl; laid = b.0; spells = b.1; named = b.2 }

pub returns-in-Ref : goal.returns-in-Ref
returns-in-Ref g c =
    let b = subst (Builds (holder c.args.pass.now) (holder c.args.pass.now) c.args.at c.to_any_word-in-Ref.result) (sym c.in-Ref.is) (thing_built (holder c.args.pass.now) c.args.at _ c.in-Ref.thing c.to_any_word-in-Ref.ensures) in
    record { of = refl; laid = b.0; spells = b.1; named = b.2 }

pub to_any_word-requires-in-Ref : goal.to_any_word-requires-in-Ref
to_any_word-requires-in-Ref g c = subst HasPlace c.in-Ref.is c.requires.place

pub build_integer-requires : goal.build_integer-requires
build_integer-requires g c =
    let same : to_z w64 (of_z w64 c.in-Int.n) ≡ c.in-Int.n = search rules in
    let room = subst (λ v. OwnsWords (holder c.args.pass.now) c.args.at (blocks (plain v))) c.in-Int.is c.requires.room in
    record { of = c.requires.of; room = subst (λ (n : ℤ). OwnsWords (holder c.args.pass.now) c.args.at (blocks (Int n))) (sym same) room }

pub returns-in-Int : goal.returns-in-Int
returns-in-Int g c =
    let same : to_z w64 (of_z w64 c.in-Int.n) ≡ c.in-Int.n = search rules in
    let is = c.in-Int.is ∙ ap (λ (n : ℤ). held.Int n) (sym same) in
    let b = subst (Builds (holder c.args.pass.now) (holder c.build_integer.new.pass) c.args.at c.build_integer.result) (sym is) c.build_integer.ensures.built in
    record { of = c.build_integer.ensures.of; laid = b.0; spells = b.1; named = b.2 }

pub lay_text-requires : goal.lay_text-requires
lay_text-requires g c =
    let room = subst (λ v. OwnsWords (holder c.args.pass.now) c.args.at (blocks (plain v))) c.in-Str.is c.requires.room in
    record { of = c.requires.of; room = subst (λ (bytes : List ℕ). OwnsWords (holder c.args.pass.now) c.args.at (text_words bytes)) (sym c.as_slice.ensures) room }

pub to_any_word-requires-in-Str : goal.to_any_word-requires-in-Str
to_any_word-requires-in-Str g c =
    let room = subst (λ v. OwnsWords (holder c.args.pass.now) c.args.at (blocks (plain v))) c.in-Str.is c.requires.room in
    low c.args.at 134217728 (in_heap c.args.heap.now c.args.pass.now c.args.at c.requires.of (inl (room c.args.at (omega arith) (omega arith)))) (omega arith)

pub returns-in-Str : goal.returns-in-Str
returns-in-Str g c =
    let room = subst (λ v. OwnsWords (holder c.args.pass.now) c.args.at (blocks (plain v))) c.in-Str.is c.requires.room in
    let all : AreBytes c.in-Str.text = subst AreBytes c.as_slice.ensures c.lay_text.ensures.bytes in
    let laid = c.lay_text.ensures.laid ∙ ap (λ (bytes : List ℕ). with_words (holder c.args.pass.now) c.args.at (text_block bytes)) c.as_slice.ensures in
    let b = subst (Builds (holder c.args.pass.now) (holder c.lay_text.new.pass) c.args.at c.to_any_word-in-Str.result) (sym c.in-Str.is)
    (text_built (holder c.args.pass.now) (holder c.lay_text.new.pass) c.args.at _ c.in-Str.text all room laid c.to_any_word-in-Str.ensures) in
    record { of = c.lay_text.ensures.of; laid = b.0; spells = b.1; named = b.2 }
