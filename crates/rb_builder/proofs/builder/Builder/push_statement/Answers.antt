use Rattle.std.proofs.Common.{subst}
use Rattle.rb_builder.specs.Builder.{walk_of}
use Rattle.rb_builder.specs.Grown.{Keeps}
use Rattle.rb_builder.proofs.Saying.{said-joined}
use Rattle.rb_builder.proofs.Scripts.{made_behind}
use Rattle.rb_builder.proofs.builder.Builder.push_statement.Goals as goal

pub returns-clause-ok : goal.returns-clause-ok
returns-clause-ok c = λ i a r t.
    let w = walk_of c.args.self.now in
    record {
      classes = r.classes;
      functions = r.functions;
      main = made_behind w (λ n b. b.node n) c.args.grown.node c.args.items.now.main c.keep.new.items i.main a (subst (λ x. Keeps w x c.args.items.now.main c.keep.new.items) c.into_inner.ensures c.in_ok-keep.ensures.ok) r.main t.node;
      said = said-joined w _ _ _ i.names a.names i.threads a.threads r.said t.said c.in_ok-join.ensures.ok;
    }
