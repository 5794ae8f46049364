use Rattle.std.proofs.Common.{◌≡◌, ◌∙◌, ap, sym, Some}
use Rattle.std.specs.Prelude.{not}
use Rattle.std.proofs.lemmas.Result.{on_err_weaker}
use Rattle.rb_model.specs.Values.{plain}
use Rattle.shape_core.specs.Path.{find_on}
use Rattle.shape_core.specs.Shape.{path_at}
use Rattle.shape_core.specs.declared.edge.Kind.TheVariants.{IntLoc, AnyLoc}
use Rattle.local_heap.specs.Memory.{write_wants}
use Rattle.local_heap.proofs.Objects.{wide_absent, wide_found, always_err}
use Rattle.local_heap.proofs.object.Object.write.Goals as goal

pub returns-in-None-clause-refused : goal.returns-in-None-clause-refused
returns-in-None-clause-refused g c =
    always_err c.add.result (ap (λ o. write_wants o (plain c.args.value)) (wide_absent (path_at (g.S.ShapeStore.shapes c.args.shapes.now) c.args.self.now.shape) c.args.name (sym c.find.ensures ∙ c.in-None.is)))

pub returns-in-Some-default-IntLoc-clause-refused : goal.returns-in-Some-default-IntLoc-clause-refused
returns-in-Some-default-IntLoc-clause-refused g c =
    let found : find_on (path_at (g.S.ShapeStore.shapes c.args.shapes.now) c.args.self.now.shape) c.args.name ≡ Some (c.in-Some-default-IntLoc.place, IntLoc) = cc in
    on_err_weaker c.put_at_integer.result
    (λ other. ap (λ o. write_wants o (plain c.args.value)) (wide_found (path_at (g.S.ShapeStore.shapes c.args.shapes.now) c.args.self.now.shape) c.args.name c.in-Some-default-IntLoc.place IntLoc found) ∙ ap not other)
    c.put_at_integer.ensures.refused

pub returns-in-Some-default-AnyLoc-clause-refused : goal.returns-in-Some-default-AnyLoc-clause-refused
returns-in-Some-default-AnyLoc-clause-refused g c =
    let found : find_on (path_at (g.S.ShapeStore.shapes c.args.shapes.now) c.args.self.now.shape) c.args.name ≡ Some (c.in-Some-default-AnyLoc.place, AnyLoc) = cc in
    on_err_weaker c.put_at_any.result
    (λ kept. ap (λ o. write_wants o (plain c.args.value)) (wide_found (path_at (g.S.ShapeStore.shapes c.args.shapes.now) c.args.self.now.shape) c.args.name c.in-Some-default-AnyLoc.place AnyLoc found) ∙ kept)
    c.put_at_any.ensures.refused
