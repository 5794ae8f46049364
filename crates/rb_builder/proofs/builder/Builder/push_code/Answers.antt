use Rattle.std.proofs.Common.{subst}
use Rattle.rb_tree.specs.declared.node.Piece.TheVariants as piece
use Rattle.rb_builder.specs.Builder.{walk_of}
use Rattle.rb_builder.specs.Grown.{Keeps}
use Rattle.rb_builder.proofs.Pieces.{code_pushed}
use Rattle.rb_builder.proofs.builder.Builder.push_code.Goals as goal

pub returns-clause-ok : goal.returns-clause-ok
returns-clause-ok c = λ trees a r t.
    code_pushed (walk_of c.args.self.now) c.args.row.now (record { height = c.max-row.result; pieces = c.keep.new.items; said = c.join.new.self }) c.args.grown trees a
    c.max-row.ensures (subst (λ x. Keeps (walk_of c.args.self.now) (piece.Code x) c.args.row.now.pieces c.keep.new.items) c.into_inner.ensures c.in_ok-keep.ensures.ok) c.in_ok-join.ensures.ok r t
