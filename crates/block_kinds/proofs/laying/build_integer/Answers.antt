use Rattle.std.proofs.Common.{refl, ap, sym, subst, ◌∙◌, ◌≡◌, ℤ, FitsSigned, w64, to_z, of_z, inl, true≢false, rules, arith}
use Rattle.heap_core.specs.Heaps.{holder}
use Rattle.typed_location.specs.Word.{IsSmall, word_of}
use Rattle.typed_location.specs.declared.general_place.Any.TheVariants as any
use Rattle.block_kinds.specs.Built.{box_block, with_words}
use Rattle.block_kinds.proofs.Building.{box_built, box_owns, small_built}
use Rattle.block_kinds.proofs.Naming.{low}
use Rattle.block_kinds.proofs.Within.{in_heap}
use Rattle.block_kinds.proofs.laying.build_integer.Goals as goal

pub to_any_word-requires : goal.to_any_word-requires
to_any_word-requires g c = c.if-is_small.ensures.exact.0 refl

pub returns-then-is_small : goal.returns-then-is_small
returns-then-is_small g c =
    let same : to_z w64 (of_z w64 c.args.n) ≡ c.args.n = search rules in
    let fits : FitsSigned w64 c.args.n = search rules in
    record {
      of = refl;
      built = small_built (holder c.args.pass.now) c.args.at _ c.args.n (subst IsSmall same (c.if-is_small.ensures.exact.0 refl)) fits (c.to_any_word.ensures ∙ ap (λ (n : ℤ). word_of (any.Small n)) same);
    }

pub lay_box-requires : goal.lay_box-requires
lay_box-requires g c =
    let same : to_z w64 (of_z w64 c.args.n) ≡ c.args.n = search rules in
    record { of = c.requires.of; room = box_owns (holder c.args.pass.now) c.args.at c.args.n (λ s. true≢false (sym (c.if-is_small.ensures.exact.1 (subst IsSmall (sym same) s)))) c.requires.room }

pub to_any_word-requires-2 : goal.to_any_word-requires-2
to_any_word-requires-2 g c =
    let same : to_z w64 (of_z w64 c.args.n) ≡ c.args.n = search rules in
    let own = box_owns (holder c.args.pass.now) c.args.at c.args.n (λ s. true≢false (sym (c.if-is_small.ensures.exact.1 (subst IsSmall (sym same) s)))) c.requires.room in
    low c.args.at 134217728 (in_heap c.args.heap.now c.args.pass.now c.args.at c.requires.of (inl (own c.args.at (omega arith) (omega arith)))) (omega arith)

pub returns : goal.returns
returns g c =
    let same : to_z w64 (of_z w64 c.args.n) ≡ c.args.n = search rules in
    let fits : FitsSigned w64 c.args.n = search rules in
    let wide : IsSmall c.args.n → ⊥ = λ s. true≢false (sym (c.if-is_small.ensures.exact.1 (subst IsSmall (sym same) s))) in
    let own = box_owns (holder c.args.pass.now) c.args.at c.args.n wide c.requires.room in
    let laid = c.lay_box.ensures.laid ∙ ap (λ (n : ℤ). with_words (holder c.args.pass.now) c.args.at (box_block n)) same in
    record {
      of = c.lay_box.ensures.of;
      built = box_built (holder c.args.pass.now) (holder c.lay_box.new.pass) c.args.at _ c.args.n wide fits own laid c.to_any_word-2.ensures;
    }
