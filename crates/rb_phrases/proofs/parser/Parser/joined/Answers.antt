use Rattle.std.proofs.Common.{Ok, Err, refl, ap, ◌∙◌}
use Rattle.rb_grammar.specs.Look as look
use Rattle.rb_grammar.specs.Tree as tree
use Rattle.rb_grammar.specs.Grammar.{operator_name}
use Rattle.rb_cursor.specs.declared.class.Class.TheVariants as class
use Rattle.rb_cursor.proofs.Steps.{handed_on}
use Rattle.rb_builder.specs.Builder.{walk_of}
use Rattle.rb_builder.specs.Grown.{IsTree}
use Rattle.rb_phrases.proofs.Others.{is_other}
use Rattle.rb_phrases.proofs.Outside as out
use Rattle.rb_phrases.proofs.Ends as ends
use Rattle.rb_phrases.proofs.parser.Parser.joined.Goals as goal

pub returns-in-Or : goal.returns-in-Or
returns-in-Or c = λ a b s h i. rw c.in-Or.is (ends.finishes_so (walk_of c.args.self.make) (tree.or_else c.args.token.now.at a b) c.args.self.levels s c.or_else.result (c.or_else.ensures a b h i))

pub returns-in-And : goal.returns-in-And
returns-in-And c = λ a b s h i. rw c.in-And.is (ends.finishes_so (walk_of c.args.self.make) (tree.and_also c.args.token.now.at a b) c.args.self.levels s c.and_also.result (c.and_also.ensures a b h i))

pub returns-in_err-equal-in-Equal : goal.returns-in_err-equal-in-Equal
returns-in_err-equal-in-Equal c = λ a b s h i. rw c.in-Equal.is (handed_on (IsTree (walk_of c.args.self.make)) s c.from_residual.result c.from_residual.ensures.1 (out.equal_fails (walk_of c.args.self.make) c.args.token.now a b c.args.self.levels s c.in_err-equal-in-Equal.field-0.0 (out.named_binary (walk_of c.args.self.make) a b c.operator_word-word.result.text.now (operator_name look.equal) c.operator_word-word.result.at c.args.token.now.at (Err c.in_err-equal-in-Equal.field-0.0) c.operator_word-word.ensures.text c.operator_word-word.ensures.at (c.in_err-equal-in-Equal.ensures a b h i))))

pub returns-in-NotEqual : goal.returns-in-NotEqual
returns-in-NotEqual c = λ a b s h i. let equal = out.named_binary (walk_of c.args.self.make) a b c.operator_word-word.result.text.now (operator_name look.equal) c.operator_word-word.result.at c.args.token.now.at (Ok c.in_ok-equal-in-Equal.equal) c.operator_word-word.ensures.text c.operator_word-word.ensures.at (c.in_ok-equal-in-Equal.ensures a b h i) in rw c.in-Equal.is (out.not_equal_comes (walk_of c.args.self.make) c.args.token.now a b c.args.self.levels s c.negated.result (out.is_the class.NotEqual c.args.token.now c.class_of-class.result c.class_of-class.ensures c.in-NotEqual.is refl) equal.1 (c.negated.ensures (tree.binary (operator_name look.equal) c.args.token.now.at a b) equal.0))

pub returns-in_default-class : goal.returns-in_default-class
returns-in_default-class c = λ a b s h i. let equal = out.named_binary (walk_of c.args.self.make) a b c.operator_word-word.result.text.now (operator_name look.equal) c.operator_word-word.result.at c.args.token.now.at (Ok c.in_ok-equal-in-Equal.equal) c.operator_word-word.ensures.text c.operator_word-word.ensures.at (c.in_ok-equal-in-Equal.ensures a b h i) in rw c.in-Equal.is (out.equal_comes (walk_of c.args.self.make) c.args.token.now a b c.args.self.levels s c.in_ok-equal-in-Equal.equal (out.is_not class.NotEqual c.args.token.now c.class_of-class.result c.class_of-class.ensures (is_other class.NotEqual c.class_of-class.result c.args.token.now.spaced c.in_default-class.not-NotEqual)) equal)

pub returns-in_default : goal.returns-in_default
returns-in_default c = λ a b s h i. out.other_comes (walk_of c.args.self.make) c.args.tier c.args.token.now a b c.args.self.levels s c.binary-in_default.result c.in_default.not-Or c.in_default.not-And c.in_default.not-Equal (out.named_binary (walk_of c.args.self.make) a b c.operator_word.result.text.now (operator_name (look.class_of c.args.token.now.kind)) c.operator_word.result.at c.args.token.now.at c.binary-in_default.result (c.operator_word.ensures.text ∙ ap operator_name c.class_of-class.ensures) c.operator_word.ensures.at (c.binary-in_default.ensures a b h i))
