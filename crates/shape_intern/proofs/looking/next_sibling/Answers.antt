use Rattle.std.proofs.Common.{refl, inr, arith}
use Rattle.shape_intern.proofs.Within.{shape_below, tree_of}
use Rattle.shape_intern.proofs.looking.next_sibling.Goals as goal

pub overflow_add-home : goal.overflow_add-home
overflow_add-home g c = let below = shape_below c.args.heap.now c.args.pass.now c.args.home c.requires.of c.requires.known in omega (arith, below)

pub look-requires : goal.look-requires
look-requires g c = record { of = c.requires.of; known = c.requires.known; from = omega arith; to = omega arith }

pub returns : goal.returns
returns g c =
    let told = c.look.ensures.told c.requires.known.0 c.requires.known.1 in record {
      of = c.look.ensures.of;
      learns = told.0;
      tree = tree_of _ _ told.0 told.1;
      leads = told.3 (inr refl);
    }
