use Rattle.std.proofs.Common.{◌∙◌, ◌+◌, sym, subst, arith}
use Rattle.heap_core.specs.Blocks.{ShapeAt}
use Rattle.heap_core.specs.Heaps.{holder}
use Rattle.heap_core.specs.Passes.{FixedIs}
use Rattle.heap_core.specs.View.{Holder, Knows}
use Rattle.shape_intern.proofs.Interns.{places_few, places_found, tag_found, words_same}
use Rattle.shape_intern.proofs.Within.{shape_below, size_below}
use Rattle.shape_intern.proofs.making.child_words.Goals as goal

pub load_fixed-tag-requires : goal.load_fixed-tag-requires
load_fixed-tag-requires g c = record { of = c.requires.of; known = (ShapeAt c.requires.known.0 c.args.shape_at, c.requires.known.1, (omega arith, omega arith)) }

pub overflow_add-shape_at : goal.overflow_add-shape_at
overflow_add-shape_at g c = let below = shape_below c.args.heap.now c.args.pass.now c.args.shape_at c.requires.of c.requires.known in omega (arith, below)

pub load_fixed-places-requires : goal.load_fixed-places-requires
load_fixed-places-requires g c = record {
  of = c.load_fixed-tag.ensures.of ∙ c.requires.of;
  known = (
    ShapeAt c.requires.known.0 c.args.shape_at,
    subst (λ (h : Holder). Knows h (ShapeAt c.requires.known.0 c.args.shape_at)) (sym c.load_fixed-tag.ensures.same) c.requires.known.1,
    (omega arith, omega arith),
  );
}

pub places_behind-count-requires : goal.places_behind-count-requires
places_behind-count-requires g c =
    let few = places_few (holder c.args.pass.now) c.requires.known.0 c.args.shape_at c.load_fixed-places.result c.requires.tree (size_below c.args.heap.now c.args.pass.now c.requires.of) c.requires.known.1
    (subst (λ (h : Holder). FixedIs h (c.args.shape_at + 4) c.load_fixed-places.result) c.load_fixed-tag.ensures.same c.load_fixed-places.ensures.word) in
    omega (arith, few)

pub returns : goal.returns
returns g c = record {
  of = c.load_fixed-places.ensures.of ∙ c.load_fixed-tag.ensures.of;
  same = c.load_fixed-places.ensures.same ∙ c.load_fixed-tag.ensures.same;
  words = λ shape kn.
      let tag = tag_found (holder c.args.pass.now) shape c.args.shape_at _ kn c.load_fixed-tag.ensures.word in
      let places = places_found (holder c.args.pass.now) shape c.args.shape_at c.load_fixed-places.result kn
      (subst (λ (h : Holder). FixedIs h (c.args.shape_at + 4) c.load_fixed-places.result) c.load_fixed-tag.ensures.same c.load_fixed-places.ensures.word) in
      words_same _ _ c.args.shape_at _ _ _ _ _ _ (c.tag_behind-tag.ensures shape.class shape.path tag) c.edge_word-word.ensures.word places (c.places_behind-count.ensures shape.path places);
  narrow = c.edge_word-word.ensures.narrow;
}
