use Rattle.rb_grammar.specs.Tree as tree
use Rattle.rb_builder.specs.Builder.{walk_of}
use Rattle.rb_builder.proofs.Saying.{said-joined}
use Rattle.rb_builder.proofs.Scripts.{made_behind}
use Rattle.rb_builder.proofs.builder.Builder.push_function.Goals as goal

pub returns-clause-ok : goal.returns-clause-ok
returns-clause-ok c = λ i f r t.
    let w = walk_of c.args.self.now in
    record {
      classes = r.classes;
      functions = made_behind w tree.method_by c.args.method.method c.args.items.now.functions c.keep.new.items i.functions f c.in_ok-keep.ensures.ok r.functions t.method;
      main = r.main;
      said = said-joined w _ _ _ i.names (tree.method_names f) i.threads (tree.threads_of f.body) r.said t.said c.in_ok-join.ensures.ok;
    }
