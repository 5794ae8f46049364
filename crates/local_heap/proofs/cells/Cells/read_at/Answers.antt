use Rattle.std.proofs.Common.{◌≡◌, ◌∙◌, ℕ, List, get_or, ap, sym}
use Rattle.std.proofs.lemmas.Result.{IfOk-weaker}
use Rattle.rb_model.specs.Values.{plain}
use Rattle.shape_core.specs.declared.edge.Kind.{Kind}
use Rattle.local_heap.specs.Words.{any_of}
use Rattle.local_heap.specs.Slots.{meaning, slot_at}
use Rattle.local_heap.specs.Fields.{value_by}
use Rattle.local_heap.specs.Cells.{home_of}
use Rattle.local_heap.proofs.Reading.{any_read}
use Rattle.local_heap.proofs.cells.Cells.read_at.Goals as goal

pub returns-in-AnyLoc-clause-value : goal.returns-in-AnyLoc-clause-value
returns-in-AnyLoc-clause-value g c =
    let home = home_of (g.S.ShapeStore.shapes c.args.shapes.now) c.args.self.now in
    let slot = slot_at c.args.object.now c.args.place.0 in
    let any : c.unwrap-any.result ≡ any_of slot.word
    = any_read c.from_any_word.result c.unwrap-any.result _ c.unwrap-any.ensures c.from_any_word.ensures.found
    ∙ ap (λ (ws : List ℕ). any_of (get_or ws c.args.place.0 0)) c.deref.ensures in
    IfOk-weaker c.meant.result (λ value. plain value ≡ meaning home slot.whole c.unwrap-any.result) (λ value. plain value ≡ value_by home c.args.kind slot) (λ value e. e ∙ ap (meaning home slot.whole) any ∙ ap (λ (k : Kind). value_by home k slot) (sym c.in-AnyLoc.is)) c.meant.ensures.value
