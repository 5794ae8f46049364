use Rattle.std.proofs.Common.{ap, ◌∙◌, max, subst}
use Rattle.rb_builder.specs.Builder.{walk_of}
use Rattle.rb_builder.specs.Grown.{Keeps}
use Rattle.rb_builder.proofs.Pairs.{pair_pushed}
use Rattle.rb_builder.proofs.builder.Builder.push_pair.Goals as goal

pub returns-clause-ok : goal.returns-clause-ok
returns-clause-ok c = λ trees a b r t u.
    pair_pushed (walk_of c.args.self.now) c.args.row.now (record { height = c.max-row.result; pairs = c.keep.new.items; said = c.join-2.new.self }) c.args.key c.args.value c.join.new.self trees a b
    (c.max-row.ensures ∙ ap (λ x. max c.args.row.now.height x) c.max-pair.ensures) (subst (λ x. Keeps (walk_of c.args.self.now) (x, c.args.value.node) c.args.row.now.pairs c.keep.new.items) c.into_inner.ensures
    (subst (λ x. Keeps (walk_of c.args.self.now) (c.into_inner.result, x) c.args.row.now.pairs c.keep.new.items) c.into_inner-2.ensures c.in_ok-keep.ensures.ok)) c.in_ok-join.ensures.ok c.in_ok-join-2.ensures.ok r t u
