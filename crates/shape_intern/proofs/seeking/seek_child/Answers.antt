use Rattle.std.proofs.Common.{◌∙◌, Some, arith}
use Rattle.heap_core.specs.Blocks.{ShapeAt}
use Rattle.shape_intern.proofs.Edges.{child_tells}
use Rattle.shape_intern.proofs.Rows.{child_begun}
use Rattle.shape_intern.proofs.Within.{learns_among, learns_both, shape_below}
use Rattle.shape_intern.proofs.seeking.seek_child.Goals as goal

pub overflow_add-home : goal.overflow_add-home
overflow_add-home g c = let below = shape_below c.args.heap.now c.args.pass.now c.args.home c.requires.of c.requires.known in omega (arith, below)

pub seek-requires : goal.seek-requires
seek-requires g c =
    let known = c.requires.known in record {
      of = c.first_child-first.ensures.of ∙ c.requires.of;
      tree = c.first_child-first.ensures.tree;
      begun = (Some known.0, child_begun _ _ c.first_child-first.ensures.tree known.0 c.args.home _ (learns_among _ _ c.first_child-first.ensures.learns (ShapeAt known.0 c.args.home) known.1) c.first_child-first.ensures.leads);
      within = omega arith;
    }

pub returns : goal.returns
returns g c = record {
  of = c.seek.ensures.of ∙ c.first_child-first.ensures.of;
  learns = learns_both _ _ _ c.first_child-first.ensures.learns c.seek.ensures.learns;
  tree = c.seek.ensures.tree;
  sought = λ shape kn. c.seek.ensures.sought (Some shape) _ (child_begun _ _ c.first_child-first.ensures.tree shape c.args.home _ (learns_among _ _ c.first_child-first.ensures.learns (ShapeAt shape c.args.home) kn) c.first_child-first.ensures.leads)
      (child_tells shape c.args.edge.now _ c.edge_word.ensures.word);
}
