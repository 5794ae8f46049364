use Rattle.std.proofs.Common.{◌≡◌, Some, to_z, of_z, w64, refl, arith, rules}
use Rattle.shape_core.specs.Path.{find_on}
use Rattle.shape_core.specs.Shape.{path_at}
use Rattle.shape_core.specs.declared.edge.Kind.TheVariants.{IntLoc}
use Rattle.shape_core.proofs.Places.{below}
use Rattle.local_heap.proofs.Adding.{sum_written}
use Rattle.local_heap.proofs.object.Object.add_to_field.Goals as goal

pub add_to_word-requires : goal.add_to_word-requires
add_to_word-requires g c =
    let found : find_on (path_at (g.S.ShapeStore.shapes c.args.shapes.now) c.args.self.now.shape) c.args.name ≡ Some (c.in-Some-default-IntLoc.place, IntLoc) = cc in
    omega (arith, below (path_at (g.S.ShapeStore.shapes c.args.shapes.now) c.args.self.now.shape) c.args.name c.in-Some-default-IntLoc.place IntLoc found, c.requires.long)

pub returns-in-Some-default-IntLoc-clause-written : goal.returns-in-Some-default-IntLoc-clause-written
returns-in-Some-default-IntLoc-clause-written g c =
    let found : find_on (path_at (g.S.ShapeStore.shapes c.args.shapes.now) c.args.self.now.shape) c.args.name ≡ Some (c.in-Some-default-IntLoc.place, IntLoc) = cc in
    let z : to_z w64 (of_z w64 c.args.n) ≡ c.args.n = search rules in
    sum_written (g.S.ShapeStore.shapes c.args.shapes.now) c.args.self.now _ c.args.name c.in-Some-default-IntLoc.place c.args.n c.add_to_word.result c.requires found refl refl (rw z at c.add_to_word.ensures.sum) c.add_to_word.ensures.written
