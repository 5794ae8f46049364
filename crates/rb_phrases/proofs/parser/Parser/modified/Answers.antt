use Rattle.std.proofs.Common.{[], ◌∷◌}
use Rattle.rb_grammar.specs.Look as look
use Rattle.rb_grammar.specs.Tree as tree
use Rattle.rb_grammar.specs.Grammar.{is_one, finished}
use Rattle.rb_cursor.proofs.Steps.{carry}
use Rattle.rb_builder.specs.Builder.{walk_of}
use Rattle.rb_builder.specs.Grown.{IsTree}
use Rattle.rb_phrases.proofs.Outside as out
use Rattle.rb_phrases.proofs.Ends as ends
use Rattle.rb_phrases.proofs.parser.Parser.modified.Goals as goal

pub returns-in-WhileWord : goal.returns-in-WhileWord
returns-in-WhileWord c = λ a x s h i. carry (IsTree (walk_of c.args.self.make)) s c.repeated_behind.result (out.picks_first (is_one (look.while_word ∷ look.until_word ∷ []) c.args.word.now) (finished (tree.loop_behind c.args.word.now.at a x)) (finished (tree.choice_behind c.args.word.now.at a x)) c.args.self.levels s (out.is_while c.args.word.now c.class_of.result c.class_of.ensures c.in-WhileWord.is)) (ends.finishes_so (walk_of c.args.self.make) (tree.loop_behind c.args.word.now.at a x) c.args.self.levels s c.repeated_behind.result (c.repeated_behind.ensures a x h i))

pub returns-in-UntilWord : goal.returns-in-UntilWord
returns-in-UntilWord c = λ a x s h i. carry (IsTree (walk_of c.args.self.make)) s c.repeated_behind-in-UntilWord.result (out.picks_first (is_one (look.while_word ∷ look.until_word ∷ []) c.args.word.now) (finished (tree.loop_behind c.args.word.now.at a x)) (finished (tree.choice_behind c.args.word.now.at a x)) c.args.self.levels s (out.is_until_behind c.args.word.now c.class_of.result c.class_of.ensures c.in-UntilWord.is)) (ends.finishes_so (walk_of c.args.self.make) (tree.loop_behind c.args.word.now.at a x) c.args.self.levels s c.repeated_behind-in-UntilWord.result (c.repeated_behind-in-UntilWord.ensures a x h i))

pub returns-in_default : goal.returns-in_default
returns-in_default c = λ a x s h i. carry (IsTree (walk_of c.args.self.make)) s c.choice_behind.result (out.picks_second (is_one (look.while_word ∷ look.until_word ∷ []) c.args.word.now) (finished (tree.loop_behind c.args.word.now.at a x)) (finished (tree.choice_behind c.args.word.now.at a x)) c.args.self.levels s (out.is_no_loop c.args.word.now c.class_of.result c.class_of.ensures c.in_default.not-WhileWord c.in_default.not-UntilWord)) (ends.finishes_so (walk_of c.args.self.make) (tree.choice_behind c.args.word.now.at a x) c.args.self.levels s c.choice_behind.result (c.choice_behind.ensures a x h i))
