use Rattle.std.proofs.Common.{Ok, refl, []}
use Rattle.rb_grammar.specs.Tree as tree
use Rattle.rb_grammar.specs.Phrase as p
use Rattle.rb_grammar.specs.Rule.{done}
use Rattle.rb_grammar.specs.Grammar.{as_value}
use Rattle.rb_cursor.specs.Word.{word_by}
use Rattle.rb_cursor.proofs.Steps.{once_looked}
use Rattle.rb_builder.specs.Builder.{walk_of}
use Rattle.rb_builder.specs.Operand.{IsPart, headed, of_new}
use Rattle.rb_phrases.proofs.Outside as out
use Rattle.rb_builder.specs.declared.operand.Part.TheVariants as part
use Rattle.rb_builder.specs.declared.operand.Head.TheVariants as head
use Rattle.rb_phrases.proofs.parser.Parser.plain_object.Goals as goal

pub returns-then-arguments_follow : goal.returns-then-arguments_follow
returns-then-arguments_follow c = out.looks_then (IsPart (walk_of c.args.self.make)) c.args.self.levels (done (p.head (p.of_new (word_by c.args.class) c.args.at))) (done (as_value (tree.new (word_by c.args.class) c.args.at []))) c.args.cursor.now c.arguments_follow.new.self (Ok (part.Head (head.New c.args.class c.args.at))) c.arguments_follow.result c.arguments_follow.ensures.answer c.if-arguments_follow.true c.arguments_follow.ensures.looks (record { value = p.head (p.of_new (word_by c.args.class) c.args.at); reads = refl; same = headed of_new })

pub returns : goal.returns
returns c = out.looks_else (IsPart (walk_of c.args.self.make)) c.args.self.levels (done (p.head (p.of_new (word_by c.args.class) c.args.at))) (done (as_value (tree.new (word_by c.args.class) c.args.at []))) c.args.cursor.now c.arguments_follow.new.self c.as_value.result c.arguments_follow.result c.arguments_follow.ensures.answer c.if-arguments_follow.false c.arguments_follow.ensures.looks (out.is_leaf (walk_of c.args.self.make) (tree.new (word_by c.args.class) c.args.at []) c.args.self.levels (once_looked c.args.cursor.now) c.as_value.result refl (c.as_value.ensures (walk_of c.args.self.make) (tree.new (word_by c.args.class) c.args.at []) (c.object.ensures [] c.row.ensures)))
