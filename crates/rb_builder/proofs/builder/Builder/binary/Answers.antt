use Rattle.std.proofs.Common.{[], ◌∷◌}
use Rattle.rb_cursor.specs.Word.{word_by}
use Rattle.rb_builder.specs.Builder.{walk_of}
use Rattle.rb_builder.proofs.Operators.{operator_built}
use Rattle.rb_builder.proofs.builder.Builder.binary.Goals as goal

pub returns : goal.returns
returns c = λ a b t u.
    operator_built (walk_of c.args.self.now) (word_by c.args.operator) a b c.call_to.result (c.call_to.ensures a (b ∷ []) t (c.in_ok-args.ensures.ok b u))
