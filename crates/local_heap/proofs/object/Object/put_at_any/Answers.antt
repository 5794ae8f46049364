use Rattle.std.proofs.Common.{refl, arith}
use Rattle.shape_core.specs.declared.edge.Kind.TheVariants.{AnyLoc}
use Rattle.shape_core.specs.Shape.{path_at}
use Rattle.shape_core.proofs.Places.{below}
use Rattle.rb_model.specs.Values.{plain}
use Rattle.local_heap.proofs.Writing.{any_put}
use Rattle.local_heap.proofs.object.Object.put_at_any.Goals as goal

pub set_word-requires : goal.set_word-requires
set_word-requires g c =
    omega (arith, below (path_at (g.S.ShapeStore.shapes c.args.shapes.now) c.args.self.now.shape) c.args.name c.args.place AnyLoc c.requires.found, c.requires.object.long)

pub returns-clause-written : goal.returns-clause-written
returns-clause-written g c =
    any_put (g.S.ShapeStore.shapes c.args.shapes.now) c.args.self.now _ c.args.name c.args.place AnyLoc c.slot_for-word.result.word _
    c.requires.object c.requires.found refl c.set_word.ensures c.in_ok-settle.ensures.put
    (plain c.args.value) c.args.whose refl c.slot_for-word.ensures.stands
