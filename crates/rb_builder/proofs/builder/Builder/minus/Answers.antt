use Rattle.std.proofs.Common.{◌∷◌, [], suc, refl, sym, ap, ◌∙◌, append-nil, None, Some}
use Rattle.rb_grammar.specs.Tree as tree
use Rattle.rb_tree.specs.declared.node.Node.TheVariants as node
use Rattle.rb_builder.specs.Builder.{walk_of}
use Rattle.rb_builder.proofs.Saying.{said-joined, said_same}
use Rattle.rb_builder.proofs.Making.{one_high}
use Rattle.rb_builder.proofs.Scripts.{made_of, made_same}
use Rattle.rb_builder.proofs.builder.Builder.minus.Goals as goal

pub returns : goal.returns
returns c = λ a t.
    let w = walk_of c.args.self.now in
    c.branch-self.ensures w (tree.minus c.args.at a) (record {
      place = refl;
      height = ap suc (t.height ∙ one_high a.height);
      made = made_same w _ _ (tree.minus c.args.at a).node (rw (c.new.ensures) refl)
          (made_of w _ _ a.node (λ n. n.name tree.minus_name) (λ x y. node.Call (Some x) y [] None c.args.at) t.node c.name-name.ensures);
      says = said_same w c.join.new.self refl (sym (append-nil a.threads))
          (said-joined w _ _ _ (tree.given tree.minus_name c.args.at ∷ []) a.names [] a.threads (c.in_ok-said.ensures.ok (tree.given tree.minus_name c.args.at) refl) t.said c.in_ok-join.ensures.ok);
    })
