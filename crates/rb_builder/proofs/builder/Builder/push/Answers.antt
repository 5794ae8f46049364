use Rattle.std.proofs.Common.{subst}
use Rattle.rb_builder.specs.Builder.{walk_of}
use Rattle.rb_builder.specs.Grown.{Keeps}
use Rattle.rb_builder.proofs.Rows.{row_pushed}
use Rattle.rb_builder.proofs.builder.Builder.push.Goals as goal

pub returns-clause-ok : goal.returns-clause-ok
returns-clause-ok c = λ trees a r t.
    row_pushed (walk_of c.args.self.now) c.args.row.now (record { height = c.max-row.result; nodes = c.keep.new.items; said = c.join.new.self }) c.args.grown trees a
    c.max-row.ensures (subst (λ x. Keeps (walk_of c.args.self.now) x c.args.row.now.nodes c.keep.new.items) c.into_inner.ensures c.in_ok-keep.ensures.ok) c.in_ok-join.ensures.ok r t
