use Rattle.heap_core.specs.Blocks.{ShapeAt}
use Rattle.heap_core.proofs.Growing.{looks_shape}
use Rattle.shape_intern.proofs.looking.look.Goals as goal

pub load-requires : goal.load-requires
load-requires g c = record {
  of = c.requires.of;
  known = (ShapeAt c.requires.known.0 c.args.home, c.requires.known.1, (c.requires.from, c.requires.to));
  allows = looks_shape _ _ _ c.args.home c.args.at c.requires.known.0 _ c.args.pass.now.rests.1.live c.requires.known.1 c.requires.from c.requires.to;
}

pub returns : goal.returns
returns g c = record { of = c.load.ensures.of; told = λ shape kn. c.load.ensures.told (ShapeAt shape c.args.home) kn (c.requires.from, c.requires.to) }
