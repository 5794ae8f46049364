use Rattle.std.proofs.Common.{[], ◌∷◌}
use Rattle.rb_grammar.specs.Tree as tree
use Rattle.rb_builder.specs.Builder.{walk_of}
use Rattle.rb_phrases.proofs.Outside as out
use Rattle.rb_phrases.proofs.parser.Parser.choice_of_two.Goals as goal

pub returns-in_err-first : goal.returns-in_err-first
returns-in_err-first c = λ x a b h i j. out.wants_memory_for (walk_of c.args.self.make) (tree.choice c.args.at x (a ∷ []) (b ∷ [])) c.from_residual.result c.in_err-first.field-0.0 c.from_residual.ensures.1 c.in_err-first.ensures.memory

pub returns-in_err-second : goal.returns-in_err-second
returns-in_err-second c = λ x a b h i j. out.wants_memory_for (walk_of c.args.self.make) (tree.choice c.args.at x (a ∷ []) (b ∷ [])) c.from_residual-in_err-second.result c.in_err-second.field-0.0 c.from_residual-in_err-second.ensures.1 c.in_err-second.ensures.memory

pub returns : goal.returns
returns c = λ x a b h i j. c.as_value.ensures (walk_of c.args.self.make) (tree.choice c.args.at x (a ∷ []) (b ∷ [])) (c.choice.ensures x (a ∷ []) (b ∷ []) h (c.in_ok-first.ensures.ok a i) (c.in_ok-second.ensures.ok b j))
