use Rattle.std.proofs.Common.{◌∷◌}
use Rattle.rb_grammar.specs.Tree as tree
use Rattle.rb_builder.specs.Builder.{walk_of}
use Rattle.rb_builder.proofs.Saying.{said-joined}
use Rattle.rb_builder.proofs.Scripts.{made_behind}
use Rattle.rb_builder.proofs.builder.Builder.push_class.Goals as goal

pub returns-clause-ok : goal.returns-clause-ok
returns-clause-ok c = λ i k r t.
    let w = walk_of c.args.self.now in
    record {
      classes = made_behind w tree.class_by c.args.class.class c.args.items.now.classes c.keep.new.items i.classes k c.in_ok-keep.ensures.ok r.classes t.class;
      functions = r.functions;
      main = r.main;
      said = said-joined w _ _ _ i.names (k.name ∷ k.members.names) i.threads k.members.threads r.said t.said c.in_ok-join.ensures.ok;
    }
