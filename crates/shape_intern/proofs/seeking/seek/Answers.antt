use Rattle.std.proofs.Common.{◌∙◌, refl, sym, subst, arith}
use Rattle.heap_core.specs.Blocks.{ShapeAt}
use Rattle.heap_core.specs.Growing.{Learns}
use Rattle.heap_core.specs.Heaps.{holder}
use Rattle.heap_core.specs.View.{Holder, Knows}
use Rattle.shape_intern.specs.Walks.{KnowsShapeAt, KnowsTree}
use Rattle.shape_intern.proofs.Marks.{less_left, mark_found, mark_other, on_known, still_on, still_walks, walk_over}
use Rattle.shape_intern.proofs.Rows.{begun_on, walk_begins}
use Rattle.shape_intern.proofs.Within.{learns_both, learns_none, shape_below}
use Rattle.shape_intern.proofs.seeking.seek.Goals as goal

pub row-init : goal.row-init
row-init g c = record {
  of = refl;
  learns = learns_none _;
  tree = c.requires.tree;
  on = (c.requires.begun.0, begun_on _ _ _ _ c.requires.begun.1);
  walks = λ row shape begun tells. walk_begins _ _ row shape _ _ c.requires.tree tells.0 begun;
}

pub row-preserved : goal.row-preserved
row-preserved g c =
    let inv = c.row.invariant in
    let learnt : Learns (holder c.row.pass) (holder c.next_sibling-at.new.pass) = subst (λ (h : Holder). Learns h (holder c.next_sibling-at.new.pass)) c.load_fixed.ensures.same c.next_sibling-at.ensures.learns in
    record {
      of = c.next_sibling-at.ensures.of ∙ (c.load_fixed.ensures.of ∙ inv.of);
      learns = learns_both _ _ _ inv.learns learnt;
      tree = c.next_sibling-at.ensures.tree;
      on = (inv.on.0, still_on (holder c.row.pass) _ learnt inv.tree c.next_sibling-at.ensures.tree c.row.at _ c.row-test.true c.next_sibling-at.ensures.leads inv.on.0 inv.on.1);
      walks = λ row shape begun tells. still_walks (holder c.row.pass) _ learnt inv.tree c.next_sibling-at.ensures.tree c.row.at _ c.row-test.true c.next_sibling-at.ensures.leads row shape c.row.end tells.0 (inv.walks row shape begun tells)
          (mark_other (holder c.row.pass) row shape c.args.mark.now.behind c.args.mark.now.word c.row.at c.row.end _ c.requires.within tells c.load_fixed.ensures.word c.if-load_fixed-mark.false);
    }

pub row-smaller : goal.row-smaller
row-smaller g c =
    let inv = c.row.invariant in
    let learnt : Learns (holder c.row.pass) (holder c.next_sibling-at.new.pass) = subst (λ (h : Holder). Learns h (holder c.next_sibling-at.new.pass)) c.load_fixed.ensures.same c.next_sibling-at.ensures.learns in
    less_left (holder c.row.pass) _ learnt inv.tree c.next_sibling-at.ensures.tree c.row.at _ c.row-test.true c.next_sibling-at.ensures.leads inv.on.0 inv.on.1

pub load_fixed-requires : goal.load_fixed-requires
load_fixed-requires g c =
    let known = on_known (holder c.row.pass) _ c.row.at c.row-test.true c.row.invariant.on.1 in
    let within = c.requires.within in record {
      of = c.row.invariant.of ∙ c.requires.of;
      known = (ShapeAt known.0 c.row.at, known.1, (omega arith, omega (arith, within)));
    }

pub next_sibling-at-requires : goal.next_sibling-at-requires
next_sibling-at-requires g c = record {
  of = c.load_fixed.ensures.of ∙ (c.row.invariant.of ∙ c.requires.of);
  known = subst (λ (h : Holder). KnowsShapeAt h c.row.at) (sym c.load_fixed.ensures.same) (on_known (holder c.row.pass) _ c.row.at c.row-test.true c.row.invariant.on.1);
}

pub overflow_add-end : goal.overflow_add-end
overflow_add-end g c = let below = shape_below c.args.heap.now c.row.pass c.row.at (c.row.invariant.of ∙ c.requires.of) (on_known (holder c.row.pass) _ c.row.at c.row-test.true c.row.invariant.on.1) in omega (arith, below)

pub returns-then-load_fixed-mark : goal.returns-then-load_fixed-mark
returns-then-load_fixed-mark g c =
    let inv = c.row.invariant in record {
      of = c.load_fixed.ensures.of ∙ inv.of;
      learns = subst (λ (h : Holder). Learns (holder c.args.pass.now) h) (sym c.load_fixed.ensures.same) inv.learns;
      tree = subst KnowsTree (sym c.load_fixed.ensures.same) inv.tree;
      sought = λ row shape begun tells. subst (λ (h : Holder). Knows h (ShapeAt shape c.row.at)) (sym c.load_fixed.ensures.same)
          (mark_found (holder c.row.pass) row shape c.args.mark.now.behind c.args.mark.now.word c.row.at c.row.end _ c.requires.within tells c.load_fixed.ensures.word (inv.walks row shape begun tells) c.row-test.true c.if-load_fixed-mark.true);
    }

pub returns : goal.returns
returns g c =
    let inv = c.row.invariant in record {
      of = inv.of;
      learns = inv.learns;
      tree = inv.tree;
      sought = λ row shape begun tells. walk_over (holder c.row.pass) row shape c.row.at c.row.end c.row-test.false (inv.walks row shape begun tells);
    }
