use Rattle.std.proofs.Common.{◌∙◌, ◌*◌, None, ap, arith}
use Rattle.shape_intern.proofs.Edges.{root_tells}
use Rattle.shape_intern.proofs.Rows.{root_begun}
use Rattle.shape_intern.proofs.Within.{learns_both}
use Rattle.shape_intern.proofs.making.seek_root.Goals as goal

pub seek-requires : goal.seek-requires
seek-requires g c = record {
  of = c.parent.ensures.of ∙ c.requires.of;
  tree = c.parent.ensures.tree;
  begun = (None, root_begun _ _ c.parent.ensures.tree 0);
  within = omega arith;
}

pub returns : goal.returns
returns g c = record {
  of = c.seek.ensures.of ∙ c.parent.ensures.of;
  learns = learns_both _ _ _ c.parent.ensures.learns c.seek.ensures.learns;
  tree = c.seek.ensures.tree;
  sought = c.seek.ensures.sought None _ (root_begun _ _ c.parent.ensures.tree 0) (root_tells c.args.class _ (ap (λ n. n * 8) c.from.ensures));
}
