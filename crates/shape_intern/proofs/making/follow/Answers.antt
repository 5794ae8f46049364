use Rattle.std.proofs.Common.{◌∙◌, sym, subst, ⊎_elim}
use Rattle.shape_core.specs.Shape.{child_of}
use Rattle.heap_core.specs.Blocks.{ShapeAt}
use Rattle.heap_core.specs.Heaps.{holder}
use Rattle.heap_core.specs.View.{Holder, HasTree}
use Rattle.shape_intern.specs.Interning.{HasRoom, IsWanted, KnowsChild, Makes}
use Rattle.shape_intern.specs.Walks.{KnowsTree}
use Rattle.shape_intern.proofs.Interns.{child_wanted, interned_found, interned_made, still_has, still_room}
use Rattle.shape_intern.proofs.Within.{learns_among}
use Rattle.shape_intern.proofs.making.follow.Goals as goal

pub child_words-words-requires : goal.child_words-words-requires
child_words-words-requires g c = record {
  of = c.in-Missing.ensures.of ∙ c.requires.of;
  tree = c.in-Missing.ensures.tree;
  known = (c.requires.known.0, learns_among _ _ c.in-Missing.ensures.learns (ShapeAt c.requires.known.0 c.args.shape_at) c.requires.known.1);
}

pub intern-requires : goal.intern-requires
intern-requires g c =
    let sought = c.in-Missing.ensures in
    let same = sym c.child_words-words.ensures.same in
    let k : Holder = holder c.args.pass.now in
    let w : Holder = holder c.seek_child.new.pass in
    let shape = c.requires.known.0 in
    let known = learns_among k w sought.learns (ShapeAt shape c.args.shape_at) c.requires.known.1 in
    record {
      of = c.child_words-words.ensures.of ∙ (sought.of ∙ c.requires.of);
      tree = subst KnowsTree same sought.tree;
      has = subst HasTree same (still_has k w sought.learns c.requires.has);
      wanted = (
        child_of shape c.args.edge.now,
        subst (λ (h : Holder). IsWanted h c.in-Missing.link c.child_words-words.result (child_of shape c.args.edge.now)) same
            (child_wanted w shape c.args.edge.now c.args.shape_at c.in-Missing.link c.child_words-words.result sought.tree known c.child_words-words.ensures.narrow (c.requires.allowed shape c.requires.known.1) (sought.sought shape c.requires.known.1) (c.child_words-words.ensures.words shape known)),
      );
      room = subst (λ (h : Holder). HasRoom h c.args.room.now) same (⊎_elim
          (λ (room : HasRoom k c.args.room.now). still_room k w sought.learns c.requires.has c.args.room.now room)
          (λ (there : KnowsChild k c.args.shape_at c.args.edge.now). absurd ((sought.sought there.0 there.1).0 there.2.0 (learns_among k w sought.learns (ShapeAt (child_of there.0 c.args.edge.now) there.2.0) there.2.1)))
          c.requires.room);
    }

pub returns-in-Found : goal.returns-in-Found
returns-in-Found g c = record {
  of = c.in-Found.ensures.of;
  interned = λ shape kn. interned_found _ _ c.in-Found.ensures.learns c.requires.has _ (child_of shape c.args.edge.now) _ c.in-Found.ensures.tree (c.in-Found.ensures.sought shape kn);
}

pub returns-in-Missing : goal.returns-in-Missing
returns-in-Missing g c = record {
  of = c.intern.ensures.of ∙ (c.child_words-words.ensures.of ∙ c.in-Missing.ensures.of);
  interned = λ shape kn.
      let sought = c.in-Missing.ensures in
      let same = c.child_words-words.ensures.same in
      let w : Holder = holder c.seek_child.new.pass in
      let known = learns_among (holder c.args.pass.now) w sought.learns (ShapeAt shape c.args.shape_at) kn in
      let wanted = child_wanted w shape c.args.edge.now c.args.shape_at c.in-Missing.link c.child_words-words.result sought.tree known c.child_words-words.ensures.narrow (c.requires.allowed shape kn) (sought.sought shape kn) (c.child_words-words.ensures.words shape known) in
      interned_made (holder c.args.pass.now) w sought.learns c.requires.has (holder c.intern.new.pass) _ _ (child_of shape c.args.edge.now) _ (sought.sought shape kn).0
      (subst (λ (h : Holder). Makes (child_of shape c.args.edge.now) c.intern.result h (holder c.intern.new.pass)) same
      (c.intern.ensures.made (child_of shape c.args.edge.now) (subst (λ (h : Holder). IsWanted h c.in-Missing.link c.child_words-words.result (child_of shape c.args.edge.now)) (sym same) wanted)))
      c.intern.ensures.place c.intern.ensures.room;
}
