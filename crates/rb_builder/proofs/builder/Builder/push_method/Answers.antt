use Rattle.rb_grammar.specs.Tree as tree
use Rattle.rb_builder.specs.Builder.{walk_of}
use Rattle.rb_builder.proofs.Saying.{said-joined}
use Rattle.rb_builder.proofs.Scripts.{made_behind}
use Rattle.rb_builder.proofs.builder.Builder.push_method.Goals as goal

pub returns-clause-ok : goal.returns-clause-ok
returns-clause-ok c = λ m f r t.
    let w = walk_of c.args.self.now in
    record {
      methods = made_behind w tree.method_by c.args.method.method c.args.members.now.methods c.keep.new.items m.methods f c.in_ok-keep.ensures.ok r.methods t.method;
      said = said-joined w _ _ _ m.names (tree.method_names f) m.threads (tree.threads_of f.body) r.said t.said c.in_ok-join.ensures.ok;
    }
