use Rattle.std.proofs.Common.{◌∙◌, ap, sym, arith, rules}
use Rattle.rb_model.specs.Values.{plain}
use Rattle.typed_location.specs.declared.general_place.Any.TheVariants as any
use Rattle.local_heap.specs.Slots.{slot_of}
use Rattle.local_heap.proofs.Slotted.{stands_by}
use Rattle.local_heap.proofs.slot.slot_for.Goals as goal

pub returns-in-Nil-clause-stands : goal.returns-in-Nil-clause-stands
returns-in-Nil-clause-stands c = λ home own. stands_by home (plain c.args.value) any.Nil (slot_of c.in_word.result) tt c.in_word.ensures.word tt (sym (ap plain c.in-Nil.is))

pub returns-in-False-clause-stands : goal.returns-in-False-clause-stands
returns-in-False-clause-stands c = λ home own. stands_by home (plain c.args.value) any.False (slot_of c.in_word-in-False.result) tt c.in_word-in-False.ensures.word tt (sym (ap plain c.in-False.is))

pub returns-in-True-clause-stands : goal.returns-in-True-clause-stands
returns-in-True-clause-stands c = λ home own. stands_by home (plain c.args.value) any.True (slot_of c.in_word-in-True.result) tt c.in_word-in-True.ensures.word tt (sym (ap plain c.in-True.is))

pub returns-in-Sym-clause-stands : goal.returns-in-Sym-clause-stands
returns-in-Sym-clause-stands c = λ home own.
    stands_by home (plain c.args.value) (any.Sym c.in-Sym.name.0) (slot_of c.in_word-in-Sym.result) (search rules) c.in_word-in-Sym.ensures.word tt (sym (ap plain c.in-Sym.is))

pub returns-in-Str-clause-stands : goal.returns-in-Str-clause-stands
returns-in-Str-clause-stands c = λ home own.
    stands_by home (plain c.args.value) (any.Text 0) (slot_of c.beside.result) (omega arith) c.beside.ensures.word tt (c.beside.ensures.whole ∙ sym (ap plain c.in-Str.is))
