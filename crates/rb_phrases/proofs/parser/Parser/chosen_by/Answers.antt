use Rattle.std.proofs.Common.{subst}
use Rattle.rb_grammar.specs.Tree as tree
use Rattle.rb_builder.specs.Builder.{walk_of}
use Rattle.rb_builder.specs.Grown.{Builds}
use Rattle.rb_phrases.proofs.parser.Parser.chosen_by.Goals as goal

pub returns : goal.returns
returns c = λ a trees h r. subst (λ at. Builds (walk_of c.args.self.make) (tree.choice at a.condition a.body trees) c.choice.result) h.at (c.choice.ensures a.condition a.body trees h.condition h.body r)
