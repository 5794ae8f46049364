use Rattle.std.proofs.Common.{◌≡◌, ◌∙◌, length, refl, sym, ap, subst, arith}
use Rattle.heap_core.specs.Blocks.{ShapeAt}
use Rattle.heap_core.specs.Growing.{MakesShape}
use Rattle.heap_core.specs.Heaps.{holder}
use Rattle.heap_core.specs.View.{Holder, Knows}
use Rattle.shape_intern.specs.Interning.{MayMake}
use Rattle.shape_intern.proofs.Makes.{end_within, it_makes, may_make}
use Rattle.shape_intern.proofs.Stores.{region_below}
use Rattle.shape_intern.proofs.making.intern.Goals as goal

pub lay-requires : goal.lay-requires
lay-requires g c =
    let room = c.requires.room in
    let long : length c.args.words.now ≡ 7 = ap length c.requires.wanted.1.5 in
    let enough = room.2 in
    record { of = c.requires.of; room = (room.0, room.1, omega (arith, long, enough)) }

pub make-requires : goal.make-requires
make-requires g c = record {
  of = c.lay.ensures.of ∙ c.requires.of;
  grows = subst (λ (h : Holder). MayMake h c.args.link c.args.room.now) (sym (c.lay.ensures.laid c.requires.room.0 c.requires.room.1))
      (may_make (holder c.args.pass.now) c.args.link c.args.room.now c.args.words.now c.requires.room c.requires.wanted.0 c.requires.has c.requires.wanted.1);
}

pub overflow_add-room : goal.overflow_add-room
overflow_add-room g c =
    let room = c.requires.room in
    let below = region_below c.args.heap.now c.args.pass.now c.args.room.now room.0 c.requires.of room.1 in
    let enough = room.2 in
    omega (arith, below, enough)

pub returns : goal.returns
returns g c = record {
  of = c.make.ensures.of ∙ c.lay.ensures.of;
  place = refl;
  room = refl;
  made = λ shape w.
      let e = w.2 in
      let laid = c.lay.ensures.laid c.requires.room.0 c.requires.room.1 in
      let within = end_within (holder c.args.pass.now).blocks shape c.args.link e in
      it_makes (holder c.args.pass.now) c.args.link c.args.room.now c.args.words.now c.requires.room shape w (holder c.make.new.pass) c.requires.tree
      (subst (λ (h : Holder). MakesShape (ShapeAt e.1.1 e.1.0) c.args.link c.args.room.now 0 h c.args.room.now (holder c.make.new.pass)) laid
      (c.make.ensures.made e.1.1 e.1.0 (subst (λ (h : Holder). Knows h (ShapeAt e.1.1 e.1.0)) (sym laid) e.1.3) within.0 within.1));
}
