use Rattle.std.proofs.Common.{◌∙◌, ap, sym, arith}
use Rattle.std.proofs.lemmas.Result.{IfOk-weaker, on_err_weaker}
use Rattle.shape_core.specs.Shape.{path_at}
use Rattle.shape_core.proofs.Places.{below}
use Rattle.rb_model.specs.Values.{is_text}
use Rattle.local_heap.specs.Slots.{slot_at}
use Rattle.local_heap.proofs.Objects.{read_nil, read_slot}
use Rattle.local_heap.proofs.cells.Cells.read.Goals as goal

pub read_at-requires-clause-within : goal.read_at-requires-clause-within
read_at-requires-clause-within g c =
    omega (arith, below (path_at (g.S.ShapeStore.shapes c.args.shapes.now) c.args.object.now.shape) c.args.name c.in-Some.place c.in-Some.kind (sym c.find.ensures ∙ c.in-Some.is), c.requires.object.long)

pub returns-in-None-clause-value : goal.returns-in-None-clause-value
returns-in-None-clause-value g c =
    sym (read_nil _ (path_at (g.S.ShapeStore.shapes c.args.shapes.now) c.args.object.now.shape) (slot_at c.args.object.now) c.args.name c.requires.object.valid (sym c.find.ensures ∙ c.in-None.is))

pub returns-in-Some-clause-value : goal.returns-in-Some-clause-value
returns-in-Some-clause-value g c =
    IfOk-weaker c.read_at.result _ _
    (λ value e. e ∙ sym (read_slot _ (path_at (g.S.ShapeStore.shapes c.args.shapes.now) c.args.object.now.shape) (slot_at c.args.object.now) c.args.name c.in-Some.place c.in-Some.kind c.requires.object.valid (sym c.find.ensures ∙ c.in-Some.is))) c.read_at.ensures.value

pub returns-in-Some-clause-refused : goal.returns-in-Some-clause-refused
returns-in-Some-clause-refused g c =
    on_err_weaker c.read_at.result
    (λ text. ap is_text (read_slot _ (path_at (g.S.ShapeStore.shapes c.args.shapes.now) c.args.object.now.shape) (slot_at c.args.object.now) c.args.name c.in-Some.place c.in-Some.kind c.requires.object.valid (sym c.find.ensures ∙ c.in-Some.is)) ∙ text)
    c.read_at.ensures.refused
