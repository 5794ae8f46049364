use Rattle.std.proofs.Common.{Some, []}
use Rattle.rb_grammar.specs.Tree as tree
use Rattle.rb_cursor.specs.Word.{word_by}
use Rattle.rb_builder.specs.Builder.{walk_of}
use Rattle.rb_phrases.proofs.Outside as out
use Rattle.rb_phrases.proofs.Calls.{looked_no_longer}
use Rattle.rb_phrases.proofs.parser.Parser.plain_member.Goals as goal

pub returns-then-arguments_follow-clause-goes : goal.returns-then-arguments_follow-clause-goes
returns-then-arguments_follow-clause-goes c = λ d a h. out.member_head (walk_of c.args.self.make) c.args.word c.args.receiver d a c.args.self.levels c.args.cursor.now c.arguments_follow.new.self c.arguments_follow.result h c.arguments_follow.ensures.answer c.if-arguments_follow.true c.arguments_follow.ensures.looks

pub returns-then-is_marked-clause-goes : goal.returns-then-is_marked-clause-goes
returns-then-is_marked-clause-goes c = λ d a h. out.member_marked (walk_of c.args.self.make) (word_by c.args.word) d a c.args.self.levels c.args.cursor.now c.arguments_follow.new.self c.arguments_follow.result c.is_marked.result c.as_value.result c.arguments_follow.ensures.answer c.if-arguments_follow.false c.arguments_follow.ensures.looks c.is_marked.ensures c.if-is_marked.true (c.as_value.ensures (walk_of c.args.self.make) (tree.call (Some a) (word_by c.args.word) []) (c.call_to.ensures a [] h c.row.ensures))

pub returns-clause-goes : goal.returns-clause-goes
returns-clause-goes c = λ d a h. out.member_plain (walk_of c.args.self.make) c.args.word c.args.receiver d a c.args.self.levels c.args.cursor.now c.arguments_follow.new.self c.arguments_follow.result c.is_marked.result h c.arguments_follow.ensures.answer c.if-arguments_follow.false c.arguments_follow.ensures.looks c.is_marked.ensures c.if-is_marked.false

pub returns-then-arguments_follow-clause-shorter : goal.returns-then-arguments_follow-clause-shorter
returns-then-arguments_follow-clause-shorter c = looked_no_longer c.args.cursor.now c.arguments_follow.new.self c.arguments_follow.ensures.looks

pub returns-then-is_marked-clause-shorter : goal.returns-then-is_marked-clause-shorter
returns-then-is_marked-clause-shorter c = looked_no_longer c.args.cursor.now c.arguments_follow.new.self c.arguments_follow.ensures.looks

pub returns-clause-shorter : goal.returns-clause-shorter
returns-clause-shorter c = looked_no_longer c.args.cursor.now c.arguments_follow.new.self c.arguments_follow.ensures.looks
