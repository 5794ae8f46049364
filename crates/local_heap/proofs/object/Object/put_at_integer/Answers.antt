use Rattle.std.proofs.Common.{◌≡◌, false, refl, ap, arith, rules}
use Rattle.std.specs.Option.{option_map}
use Rattle.shape_core.specs.declared.edge.Kind.TheVariants.{IntLoc}
use Rattle.shape_core.specs.declared.edge.Edge.TheVariants.{Widen}
use Rattle.shape_core.specs.Shape.{path_at}
use Rattle.shape_core.proofs.Paths.{Found}
use Rattle.shape_core.proofs.Places.{below}
use Rattle.rb_model.specs.Values.{plain}
use Rattle.rb_model.specs.Things.{is_integer}
use Rattle.local_heap.proofs.Objects.{is_other}
use Rattle.local_heap.proofs.Writing.{integer_put, any_widened, puts_itself}
use Rattle.local_heap.proofs.object.Object.put_at_integer.Goals as goal

pub set_word-requires : goal.set_word-requires
set_word-requires g c =
    omega (arith, below (path_at (g.S.ShapeStore.shapes c.args.shapes.now) c.args.self.now.shape) c.args.name c.args.place IntLoc c.requires.found, c.requires.object.long)

pub returns-in-Int-clause-written : goal.returns-in-Int-clause-written
returns-in-Int-clause-written g c =
    integer_put (g.S.ShapeStore.shapes c.args.shapes.now) c.args.self.now _ c.args.name c.args.place IntLoc c.to_int_word.result _
    c.requires.object c.requires.found refl c.set_word.ensures (puts_itself _ c.args.place.0)
    (plain c.args.value) c.in-Int.n c.args.whose refl (ap plain c.in-Int.is) (search rules) c.to_int_word.ensures

pub returns : goal.returns
returns g c =
    let other : is_integer (plain c.args.value) ≡ false = is_other c.args.value c.in_default.not-Int in
    record {
      written =
          any_widened (g.S.ShapeStore.shapes c.args.shapes.now) c.args.self.now (g.S.ShapeStore.shapes c.grow_by.new.shapes) c.grow_by.new.self (Widen c.args.name) c.slot_for-slot.result.word _
          c.requires.object (ap (option_map (λ (found : Found). found.1)) c.requires.found) refl c.in_ok-grow_by.ensures.shape c.in_ok-grow_by.ensures.gains c.in_ok-grow_by.ensures.words c.in_ok-grow_by.ensures.whole
          c.args.name c.args.place (plain c.args.value) c.args.whose refl c.requires.found other c.slot_for-slot.ensures.stands;
      err = tt;
      refused = tt;
    }
