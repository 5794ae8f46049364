use Rattle.std.proofs.Common.{◌≡◌, ◌∙◌, ap, refl, subst, arith, rules, to_z, of_z, w64}
use Rattle.rb_model.specs.Values.{Int}
use Rattle.typed_location.specs.declared.general_place.Any.TheVariants as any
use Rattle.typed_location.specs.Word.{IsSmall, word_of}
use Rattle.local_heap.specs.Slots.{slot_of}
use Rattle.local_heap.proofs.Slotted.{stands_by}
use Rattle.local_heap.proofs.slot.for_integer.Goals as goal

pub returns-then-is_small-clause-stands : goal.returns-then-is_small-clause-stands
returns-then-is_small-clause-stands c = λ home.
    let z : to_z w64 (of_z w64 c.args.n) ≡ c.args.n = search rules in
    stands_by home (Int c.args.n) (any.Small c.args.n) (slot_of c.in_word.result) (subst IsSmall z (c.is_small.ensures.exact.0 c.if-is_small.true))
    (c.in_word.ensures.word ∙ ap (λ n. word_of (any.Small n)) z) tt refl

pub returns-else-is_small-clause-stands : goal.returns-else-is_small-clause-stands
returns-else-is_small-clause-stands c = λ home.
    let z : to_z w64 (of_z w64 c.args.n) ≡ c.args.n = search rules in
    stands_by home (Int c.args.n) (any.Boxed 0) (slot_of c.beside.result) (omega arith) c.beside.ensures.word tt (c.beside.ensures.whole ∙ ap Int z)
