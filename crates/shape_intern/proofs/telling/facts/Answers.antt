use Rattle.std.proofs.Common.{◌∙◌, ◌+◌, sym, subst, arith}
use Rattle.shape_core.specs.Path.{is_shared}
use Rattle.heap_core.specs.Blocks.{ShapeAt}
use Rattle.heap_core.specs.Growing.{Learns}
use Rattle.heap_core.specs.Heaps.{holder}
use Rattle.heap_core.specs.Passes.{FixedIs}
use Rattle.heap_core.specs.Shapes.{parent_of}
use Rattle.heap_core.specs.View.{Holder, Knows}
use Rattle.shape_intern.specs.Facts.{IsParent}
use Rattle.shape_intern.specs.Walks.{KnowsShapeAt}
use Rattle.shape_intern.proofs.Decodes.{class_of_tag, edge_narrow, parent_is}
use Rattle.shape_intern.proofs.Finds.{edge_found}
use Rattle.shape_intern.proofs.Interns.{places_found, tag_found}
use Rattle.shape_intern.proofs.Within.{learns_among, shape_below}
use Rattle.shape_intern.proofs.telling.facts.Goals as goal

pub overflow_add-shape_at : goal.overflow_add-shape_at
overflow_add-shape_at g c = let below = shape_below c.args.heap.now c.args.pass.now c.args.shape_at c.requires.of c.requires.known in omega (arith, below)

pub overflow_add-shape_at-2 : goal.overflow_add-shape_at-2
overflow_add-shape_at-2 g c = let below = shape_below c.args.heap.now c.args.pass.now c.args.shape_at c.requires.of c.requires.known in omega (arith, below)

pub load_fixed-tag-requires : goal.load_fixed-tag-requires
load_fixed-tag-requires g c = record { of = c.requires.of; known = (ShapeAt c.requires.known.0 c.args.shape_at, c.requires.known.1, (omega arith, omega arith)) }

pub load_fixed-word-requires : goal.load_fixed-word-requires
load_fixed-word-requires g c = record {
  of = c.load_fixed-tag.ensures.of ∙ c.requires.of;
  known = (
    ShapeAt c.requires.known.0 c.args.shape_at,
    subst (λ (h : Holder). Knows h (ShapeAt c.requires.known.0 c.args.shape_at)) (sym c.load_fixed-tag.ensures.same) c.requires.known.1,
    (omega arith, omega arith),
  );
}

pub load_fixed-places-requires : goal.load_fixed-places-requires
load_fixed-places-requires g c = record {
  of = c.load_fixed-word.ensures.of ∙ (c.load_fixed-tag.ensures.of ∙ c.requires.of);
  known = (
    ShapeAt c.requires.known.0 c.args.shape_at,
    subst (λ (h : Holder). Knows h (ShapeAt c.requires.known.0 c.args.shape_at)) (sym (c.load_fixed-word.ensures.same ∙ c.load_fixed-tag.ensures.same)) c.requires.known.1,
    (omega arith, omega arith),
  );
}

pub parent-up-requires : goal.parent-up-requires
parent-up-requires g c = record {
  of = c.load_fixed-places.ensures.of ∙ (c.load_fixed-word.ensures.of ∙ (c.load_fixed-tag.ensures.of ∙ c.requires.of));
  known = subst (λ (h : Holder). KnowsShapeAt h c.args.shape_at) (sym (c.load_fixed-places.ensures.same ∙ (c.load_fixed-word.ensures.same ∙ c.load_fixed-tag.ensures.same))) c.requires.known;
}

pub class_in-requires : goal.class_in-requires
class_in-requires g c =
    let k : Holder = holder c.args.pass.now in
    let w : Holder = holder c.parent-up.new.pass in
    let learns : Learns k w = subst (λ (h : Holder). Learns h w) (c.load_fixed-places.ensures.same ∙ (c.load_fixed-word.ensures.same ∙ c.load_fixed-tag.ensures.same)) c.parent-up.ensures.learns in
    let shape = c.requires.known.0 in
    let tag = class_of_tag shape.class _ (is_shared shape.path) (tag_found k shape c.args.shape_at _ c.requires.known.1 c.load_fixed-tag.ensures.word) in
    let low = (c.parent-up.ensures.tree.narrow shape c.args.shape_at (learns_among k w learns (ShapeAt shape c.args.shape_at) c.requires.known.1)).0 in
    omega (arith, tag, low)

pub edge_in-requires : goal.edge_in-requires
edge_in-requires g c =
    let k : Holder = holder c.args.pass.now in
    let w : Holder = holder c.parent-up.new.pass in
    let learns : Learns k w = subst (λ (h : Holder). Learns h w) (c.load_fixed-places.ensures.same ∙ (c.load_fixed-word.ensures.same ∙ c.load_fixed-tag.ensures.same)) c.parent-up.ensures.learns in
    let shape = c.requires.known.0 in
    edge_narrow c.load_fixed-word.result shape.path (c.parent-up.ensures.tree.narrow shape c.args.shape_at (learns_among k w learns (ShapeAt shape c.args.shape_at) c.requires.known.1)).1
    (edge_found k shape c.args.shape_at _ c.requires.known.1 (subst (λ (h : Holder). FixedIs h (c.args.shape_at + 2) c.load_fixed-word.result) c.load_fixed-tag.ensures.same c.load_fixed-word.ensures.word))

pub returns : goal.returns
returns g c =
    let k : Holder = holder c.args.pass.now in
    let w : Holder = holder c.parent-up.new.pass in
    let second = c.load_fixed-word.ensures.same ∙ c.load_fixed-tag.ensures.same in
    let third = c.load_fixed-places.ensures.same ∙ second in
    record {
      of = c.parent-up.ensures.of ∙ (c.load_fixed-places.ensures.of ∙ (c.load_fixed-word.ensures.of ∙ c.load_fixed-tag.ensures.of));
      learns = subst (λ (h : Holder). Learns h w) third c.parent-up.ensures.learns;
      facts = λ shape kn.
          let tag = tag_found k shape c.args.shape_at _ kn c.load_fixed-tag.ensures.word in
          let edge = edge_found k shape c.args.shape_at _ kn (subst (λ (h : Holder). FixedIs h (c.args.shape_at + 2) c.load_fixed-word.result) c.load_fixed-tag.ensures.same c.load_fixed-word.ensures.word) in
          record {
            class = c.class_in.ensures ∙ class_of_tag shape.class _ (is_shared shape.path) tag;
            edge = c.edge_in.ensures shape.path edge;
            parent = subst (IsParent w.blocks (parent_of shape)) (sym c.parent_in.ensures)
                (parent_is w.blocks shape.class shape.path _ _ edge (c.parent-up.ensures.leads shape (subst (λ (h : Holder). Knows h (ShapeAt shape c.args.shape_at)) (sym third) kn)));
            places = places_found k shape c.args.shape_at _ kn (subst (λ (h : Holder). FixedIs h (c.args.shape_at + 4) c.load_fixed-places.result) second c.load_fixed-places.ensures.word);
            shared = c.flag_in.ensures shape.class (is_shared shape.path) tag;
            legal = c.parent-up.ensures.tree.legal shape c.args.shape_at (learns_among k w (subst (λ (h : Holder). Learns h w) third c.parent-up.ensures.learns) (ShapeAt shape c.args.shape_at) kn);
          };
    }
