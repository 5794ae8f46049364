use Rattle.std.proofs.Common.{[], ◌∷◌}
use Rattle.rb_grammar.specs.Look as look
use Rattle.rb_grammar.specs.Tree as tree
use Rattle.rb_grammar.specs.Rule.{done}
use Rattle.rb_grammar.specs.Grammar.{is_one, finished}
use Rattle.rb_cursor.proofs.Steps.{carry}
use Rattle.rb_builder.specs.Builder.{walk_of}
use Rattle.rb_builder.specs.Grown.{IsTree}
use Rattle.rb_phrases.proofs.Outside as out
use Rattle.rb_phrases.proofs.Ends as ends
use Rattle.rb_phrases.proofs.parser.Parser.decided.Goals as goal

pub returns-in-UnlessWord : goal.returns-in-UnlessWord
returns-in-UnlessWord c = λ a s h. carry (IsTree (walk_of c.args.self.make)) s c.negated.result (out.picks_first (is_one (look.unless_word ∷ look.until_word ∷ []) c.args.word.now) (finished (tree.negated c.args.word.now.at a)) (done a) c.args.self.levels s (out.is_unless c.args.word.now c.class_of.result c.class_of.ensures c.in-UnlessWord.is)) (ends.finishes_so (walk_of c.args.self.make) (tree.negated c.args.word.now.at a) c.args.self.levels s c.negated.result (c.negated.ensures a h))

pub returns-in-UntilWord : goal.returns-in-UntilWord
returns-in-UntilWord c = λ a s h. carry (IsTree (walk_of c.args.self.make)) s c.negated-in-UntilWord.result (out.picks_first (is_one (look.unless_word ∷ look.until_word ∷ []) c.args.word.now) (finished (tree.negated c.args.word.now.at a)) (done a) c.args.self.levels s (out.is_until c.args.word.now c.class_of.result c.class_of.ensures c.in-UntilWord.is)) (ends.finishes_so (walk_of c.args.self.make) (tree.negated c.args.word.now.at a) c.args.self.levels s c.negated-in-UntilWord.result (c.negated-in-UntilWord.ensures a h))

pub returns-in_default : goal.returns-in_default
returns-in_default c = λ a s h. record { value = a; reads = out.picks_second (is_one (look.unless_word ∷ look.until_word ∷ []) c.args.word.now) (finished (tree.negated c.args.word.now.at a)) (done a) c.args.self.levels s (out.is_neither c.args.word.now c.class_of.result c.class_of.ensures c.in_default.not-UnlessWord c.in_default.not-UntilWord); same = h }
