use Rattle.std.proofs.Common.{◌++◌, refl, sym, ap, append-nil}
use Rattle.rb_tree.specs.declared.node.Target.TheVariants as node
use Rattle.rb_builder.specs.Builder.{walk_of}
use Rattle.rb_builder.proofs.Saying.{said-joined, said_same}
use Rattle.rb_builder.proofs.Making.{two_high}
use Rattle.rb_builder.proofs.Scripts.{made_of}
use Rattle.rb_builder.proofs.builder.Builder.index_target.Goals as goal

pub returns-clause-ok : goal.returns-clause-ok
returns-clause-ok c = λ r i at t u.
    let w = walk_of c.args.self.now in
    record {
      height = rw (c.max-highest.ensures, t.height, u.height) (two_high r.height i.height);
      target = made_of w _ _ r.node i.node (λ x y. node.Index x y) t.node u.node;
      said = said_same w c.join.new.self refl (ap (λ q. r.threads ++ q) (sym (append-nil i.threads)))
          (said-joined w _ _ _ r.names i.names r.threads i.threads t.said u.said c.in_ok-join.ensures.ok);
    }
