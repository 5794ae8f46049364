use Rattle.heap_core.specs.Blocks.{ShapeAt}
use Rattle.heap_core.specs.Heaps.{holder}
use Rattle.shape_intern.proofs.Makes.{grow_allowed, grow_inside}
use Rattle.shape_intern.proofs.making.make.Goals as goal

pub store-requires : goal.store-requires
store-requires g c = record {
  of = c.requires.of;
  known = grow_inside (holder c.args.pass.now) c.args.link c.args.to c.requires.grows;
  allows = grow_allowed _ _ _ (holder c.args.pass.now) c.args.link c.args.to c.args.pass.now.rests.1.live c.requires.grows;
}

pub returns : goal.returns
returns g c = record { of = c.store.ensures.of; made = λ before home kn lo hi. c.store.ensures.told (ShapeAt before home) kn (lo, hi) }
