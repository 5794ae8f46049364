use Rattle.std.proofs.Common.{◌<◌, ◌∙◌, sym, subst, arith}
use Rattle.heap_core.specs.Blocks.{ShapeAt}
use Rattle.heap_core.specs.Growing.{Learns}
use Rattle.heap_core.specs.Heaps.{holder}
use Rattle.heap_core.specs.View.{Holder}
use Rattle.shape_intern.proofs.Finds.{IsWay, depth_at, way_begins, way_ends, way_found, way_goes, way_known, way_shorter}
use Rattle.shape_intern.proofs.Within.{learns_both, learns_none, shape_below}
use Rattle.shape_intern.proofs.finding.find.Goals as goal

pub load_fixed-word-requires : goal.load_fixed-word-requires
load_fixed-word-requires g c = record { of = c.requires.of; known = (ShapeAt c.requires.known.0 c.args.shape_at, c.requires.known.1, (omega arith, omega arith)) }

pub up-init : goal.up-init
up-init g c = record {
  of = c.load_fixed-word.ensures.of;
  learns = subst (λ (h : Holder). Learns (holder c.args.pass.now) h) (sym c.load_fixed-word.ensures.same) (learns_none (holder c.args.pass.now));
  way = λ shape kn. subst (λ (h : Holder). IsWay h c.args.shape_at c.load_fixed-word.result c.args.name shape) (sym c.load_fixed-word.ensures.same) (way_begins (holder c.args.pass.now) c.args.shape_at _ c.args.name shape c.load_fixed-word.ensures.word kn);
}

pub up-preserved : goal.up-preserved
up-preserved g c =
    let inv = c.up.invariant in
    let same = sym c.load_fixed-word-in-up.ensures.same in
    let k : Holder = holder c.up.pass in
    let w : Holder = holder c.parent-at.new.pass in
    record {
      of = c.load_fixed-word-in-up.ensures.of ∙ (c.parent-at.ensures.of ∙ inv.of);
      learns = subst (λ (h : Holder). Learns (holder c.args.pass.now) h) same (learns_both (holder c.args.pass.now) k w inv.learns c.parent-at.ensures.learns);
      way = λ shape kn. subst (λ (h : Holder). IsWay h c.parent-at.result c.load_fixed-word-in-up.result c.args.name shape) same
          (way_goes k w c.parent-at.ensures.learns c.parent-at.ensures.tree c.up.at c.up.word c.parent-at.result c.up-test.true c.parent-at.ensures.leads c.args.name shape _
          (λ edge e. sym c.in_default.is ∙ c.given.ensures edge e) c.load_fixed-word-in-up.ensures.word (inv.way shape kn));
    }

pub up-smaller : goal.up-smaller
up-smaller g c =
    let k : Holder = holder c.up.pass in
    let w : Holder = holder c.parent-at.new.pass in
    subst (λ (h : Holder). depth_at h.blocks c.parent-at.result < depth_at k.blocks c.up.at) (sym c.load_fixed-word-in-up.ensures.same)
    (way_shorter k w c.parent-at.ensures.learns c.parent-at.ensures.tree c.up.at c.up.word c.parent-at.result c.up-test.true c.parent-at.ensures.leads c.args.name c.requires.known.0 (c.up.invariant.way c.requires.known.0 c.requires.known.1))

pub parent-at-requires : goal.parent-at-requires
parent-at-requires g c = let way = c.up.invariant.way c.requires.known.0 c.requires.known.1 in record { of = c.up.invariant.of ∙ c.requires.of; known = (way.0, way.1) }

pub load_fixed-word-requires-in-up : goal.load_fixed-word-requires-in-up
load_fixed-word-requires-in-up g c =
    let known = way_known (holder c.up.pass) (holder c.parent-at.new.pass) c.parent-at.ensures.learns c.parent-at.ensures.tree c.up.at c.up.word c.parent-at.result c.up-test.true c.parent-at.ensures.leads c.args.name c.requires.known.0 (c.up.invariant.way c.requires.known.0 c.requires.known.1) in
    record { of = c.parent-at.ensures.of ∙ (c.up.invariant.of ∙ c.requires.of); known = (ShapeAt known.0 c.parent-at.result, known.1, (omega arith, omega arith)) }

pub load_fixed-place-requires : goal.load_fixed-place-requires
load_fixed-place-requires g c =
    let way = c.up.invariant.way c.requires.known.0 c.requires.known.1 in
    record { of = c.up.invariant.of ∙ c.requires.of; known = (ShapeAt way.0 c.up.at, way.1, (omega arith, omega arith)) }

pub returns : goal.returns
returns g c = record {
  of = c.up.invariant.of;
  learns = c.up.invariant.learns;
  found = λ shape kn. way_ends (holder c.up.pass) c.up.at c.up.word c.args.name shape c.up-test.false (c.up.invariant.way shape kn);
}

pub returns-in-Some : goal.returns-in-Some
returns-in-Some g c = record {
  of = c.load_fixed-place.ensures.of ∙ c.up.invariant.of;
  learns = subst (λ (h : Holder). Learns (holder c.args.pass.now) h) (sym c.load_fixed-place.ensures.same) c.up.invariant.learns;
  found = λ shape kn. way_found (holder c.up.pass) c.up.at c.up.word _ c.args.name shape c.in-Some.kind c.up-test.true (λ edge e. sym c.in-Some.is ∙ c.given.ensures edge e) c.load_fixed-place.ensures.word (c.up.invariant.way shape kn);
}

pub overflow_add-at : goal.overflow_add-at
overflow_add-at g c = let below = shape_below c.args.heap.now c.args.pass.now c.args.shape_at c.requires.of c.requires.known in omega (arith, below)

pub overflow_add-at-in-up : goal.overflow_add-at-in-up
overflow_add-at-in-up g c =
    let known = way_known (holder c.up.pass) (holder c.parent-at.new.pass) c.parent-at.ensures.learns c.parent-at.ensures.tree c.up.at c.up.word c.parent-at.result c.up-test.true c.parent-at.ensures.leads c.args.name c.requires.known.0 (c.up.invariant.way c.requires.known.0 c.requires.known.1) in
    let below = shape_below c.args.heap.now c.parent-at.new.pass c.parent-at.result (c.parent-at.ensures.of ∙ (c.up.invariant.of ∙ c.requires.of)) known in
    omega (arith, below)

pub overflow_add-at-in-Some : goal.overflow_add-at-in-Some
overflow_add-at-in-Some g c =
    let way = c.up.invariant.way c.requires.known.0 c.requires.known.1 in
    let below = shape_below c.args.heap.now c.up.pass c.up.at (c.up.invariant.of ∙ c.requires.of) (way.0, way.1) in
    omega (arith, below)
