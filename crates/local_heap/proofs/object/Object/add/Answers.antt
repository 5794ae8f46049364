use Rattle.std.proofs.Common.{◌≡◌, false, refl, sym, ap, rules, to_z, of_z, w64}
use Rattle.shape_core.specs.declared.edge.Kind.TheVariants.{IntLoc, AnyLoc}
use Rattle.shape_core.specs.declared.edge.Edge.TheVariants.{Add}
use Rattle.rb_model.specs.Values.{plain}
use Rattle.rb_model.specs.Things.{is_integer}
use Rattle.typed_location.specs.Word.{twos_complement}
use Rattle.local_heap.proofs.Objects.{is_other}
use Rattle.local_heap.proofs.Writing.{integer_added, any_added}
use Rattle.local_heap.proofs.object.Object.add.Goals as goal

pub returns-in-Int-clause-written : goal.returns-in-Int-clause-written
returns-in-Int-clause-written g c =
    let z : to_z w64 (of_z w64 c.in-Int.n) ≡ c.in-Int.n = search rules in
    integer_added (g.S.ShapeStore.shapes c.args.shapes.now) c.args.self.now (g.S.ShapeStore.shapes c.add_integer.new.shapes) c.add_integer.new.self (Add c.args.name IntLoc) (twos_complement 64 c.in-Int.n) _
    c.requires.object c.requires.absent refl c.in_ok-add_integer.ensures.shape c.in_ok-add_integer.ensures.gains (rw z at c.in_ok-add_integer.ensures.words) c.in_ok-add_integer.ensures.whole
    c.args.name (plain c.args.value) c.in-Int.n c.args.whose refl c.requires.absent (ap plain c.in-Int.is) (search rules) (ap (twos_complement 64) (sym z))

pub returns : goal.returns
returns g c =
    let other : is_integer (plain c.args.value) ≡ false = is_other c.args.value c.in_default.not-Int in
    record {
      written =
          any_added (g.S.ShapeStore.shapes c.args.shapes.now) c.args.self.now (g.S.ShapeStore.shapes c.grow_by.new.shapes) c.grow_by.new.self (Add c.args.name AnyLoc) c.slot_for-slot.result.word _
          c.requires.object c.requires.absent refl c.in_ok-grow_by.ensures.shape c.in_ok-grow_by.ensures.gains c.in_ok-grow_by.ensures.words c.in_ok-grow_by.ensures.whole
          c.args.name (plain c.args.value) c.args.whose refl c.requires.absent other c.slot_for-slot.ensures.stands;
      err = tt;
    }
