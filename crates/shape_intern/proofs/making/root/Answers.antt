use Rattle.std.proofs.Common.{◌≡◌, ◌∙◌, ◌*◌, ap, ⊎_elim}
use Rattle.shape_core.specs.Shape.{root_of}
use Rattle.heap_core.specs.Blocks.{ShapeAt}
use Rattle.heap_core.specs.Heaps.{holder}
use Rattle.heap_core.specs.View.{Holder}
use Rattle.shape_intern.specs.Interning.{HasRoom, KnowsShape}
use Rattle.shape_intern.proofs.Interns.{interned_found, interned_made, root_wanted, root_words, still_has, still_room}
use Rattle.shape_intern.proofs.Within.{learns_among}
use Rattle.shape_intern.proofs.making.root.Goals as goal

pub intern-requires : goal.intern-requires
intern-requires g c =
    let k : Holder = holder c.args.pass.now in
    let w : Holder = holder c.seek_root.new.pass in
    let learns = c.in-Missing.ensures.learns in
    let tag : c.from.result * 8 ≡ c.args.class * 8 = ap (λ n. n * 8) c.from.ensures in
    let gone = c.in-Missing.ensures.sought in
    record {
      of = c.in-Missing.ensures.of ∙ c.requires.of;
      tree = c.in-Missing.ensures.tree;
      has = still_has k w learns c.requires.has;
      wanted = (root_of c.args.class, root_wanted w c.args.class c.in-Missing.link _ c.ranges.class.fits gone (root_words c.args.class _ tag));
      room = ⊎_elim
          (λ (room : HasRoom k c.args.room.now). still_room k w learns c.requires.has c.args.room.now room)
          (λ (there : KnowsShape k (root_of c.args.class)). absurd (gone.0 there.0 (learns_among k w learns (ShapeAt (root_of c.args.class) there.0) there.1)))
          c.requires.room;
    }

pub returns-in-Found : goal.returns-in-Found
returns-in-Found g c = record {
  of = c.in-Found.ensures.of;
  interned = interned_found _ _ c.in-Found.ensures.learns c.requires.has _ (root_of c.args.class) _ c.in-Found.ensures.tree c.in-Found.ensures.sought;
}

pub returns-in-Missing : goal.returns-in-Missing
returns-in-Missing g c =
    let k : Holder = holder c.args.pass.now in
    let w : Holder = holder c.seek_root.new.pass in
    let tag : c.from.result * 8 ≡ c.args.class * 8 = ap (λ n. n * 8) c.from.ensures in
    let gone = c.in-Missing.ensures.sought in
    record {
      of = c.intern.ensures.of ∙ c.in-Missing.ensures.of;
      interned = interned_made k w c.in-Missing.ensures.learns c.requires.has (holder c.intern.new.pass) _ _ (root_of c.args.class) _ gone.0
          (c.intern.ensures.made (root_of c.args.class) (root_wanted w c.args.class c.in-Missing.link _ c.ranges.class.fits gone (root_words c.args.class _ tag)))
          c.intern.ensures.place c.intern.ensures.room;
    }
