use Rattle.std.proofs.Common.{◌∙◌, refl}
use Rattle.shape_core.specs.declared.edge.Edge.TheVariants.{Add}
use Rattle.shape_core.specs.declared.edge.Kind.TheVariants.{IntLoc}
use Rattle.shape_core.specs.Shape.{root_of}
use Rattle.heap_core.specs.Heaps.{holder}
use Rattle.shape_intern.proofs.Counts.{none_there, way_done, way_more, way_starts, way_stops}
use Rattle.shape_intern.proofs.Within.{learns_both}
use Rattle.shape_intern.proofs.counting.missing.Goals as goal

pub way-init : goal.way-init
way-init g c = record {
  of = c.in-Found.ensures.of;
  learns = c.in-Found.ensures.learns;
  place = way_starts (holder c.args.pass.now) (holder c.seek_root.new.pass) (root_of c.args.class) c.args.path.now c.in-Found.root c.in-Found.ensures.sought;
}

pub way-preserved : goal.way-preserved
way-preserved g c =
    let inv = c.way.invariant in record {
      of = c.in-Found-seek_child.ensures.of ∙ inv.of;
      learns = learns_both (holder c.args.pass.now) (holder c.way.pass) (holder c.seek_child.new.pass) inv.learns c.in-Found-seek_child.ensures.learns;
      place = way_more (holder c.args.pass.now) c.requires.has (root_of c.args.class) c.args.path.now c.way.i _ (Add (record { 0 = 0 }) IntLoc) c.way-test.true refl (holder c.way.pass) (holder c.seek_child.new.pass) c.way.at c.in-Found-seek_child.next inv.learns inv.place c.in-Found-seek_child.ensures.sought;
    }

pub seek_child-requires : goal.seek_child-requires
seek_child-requires g c = record { of = c.way.invariant.of ∙ c.requires.of; known = (c.way.invariant.place.0, c.way.invariant.place.1) }

pub returns : goal.returns
returns g c = record {
  of = c.way.invariant.of;
  learns = c.way.invariant.learns;
  misses = way_done (holder c.args.pass.now) (holder c.way.pass) c.requires.has (root_of c.args.class) c.args.path.now c.way.i c.way.at c.way.invariant.learns c.way-test.false c.way.invariant.place;
}

pub returns-in_default : goal.returns-in_default
returns-in_default g c = record {
  of = c.in_default.ensures.of;
  learns = c.in_default.ensures.learns;
  misses = none_there (holder c.args.pass.now) (holder c.seek_root.new.pass) (root_of c.args.class) c.args.path.now _ c.in_default.ensures.learns c.in_default.ensures.tree c.in_default.ensures.sought.0 refl;
}

pub returns-in_default-seek_child : goal.returns-in_default-seek_child
returns-in_default-seek_child g c =
    let inv = c.way.invariant in
    let learns = learns_both (holder c.args.pass.now) (holder c.way.pass) (holder c.seek_child.new.pass) inv.learns c.in_default-seek_child.ensures.learns in
    record {
      of = c.in_default-seek_child.ensures.of ∙ inv.of;
      learns = learns;
      misses = way_stops (holder c.args.pass.now) c.requires.has (root_of c.args.class) c.args.path.now c.way.i _ (Add (record { 0 = 0 }) IntLoc) c.way-test.true refl (holder c.way.pass) (holder c.seek_child.new.pass) c.way.at _ inv.learns learns c.in_default-seek_child.ensures.tree inv.place
          (λ shape kn. (c.in_default-seek_child.ensures.sought shape kn).0) refl;
    }
