use Rattle.std.proofs.Common.{Ok, None, refl, sym, ◌∙◌, []}
use Rattle.rb_grammar.specs.Look as look
use Rattle.rb_grammar.specs.Tree as tree
use Rattle.rb_grammar.specs.Phrase as p
use Rattle.rb_grammar.specs.Rule.{done, pick}
use Rattle.rb_grammar.specs.Grammar.{as_value}
use Rattle.rb_cursor.specs.Word.{word_by}
use Rattle.rb_cursor.proofs.Steps.{once_looked}
use Rattle.rb_builder.specs.Builder.{walk_of}
use Rattle.rb_builder.specs.Operand.{IsPart, plain, headed, bare, of_call}
use Rattle.rb_phrases.proofs.Outside as out
use Rattle.rb_builder.specs.declared.operand.Part.TheVariants as part
use Rattle.rb_builder.specs.declared.operand.Operand.TheVariants as operand
use Rattle.rb_builder.specs.declared.operand.Head.TheVariants as head
use Rattle.rb_phrases.proofs.parser.Parser.plain_name.Goals as goal

pub returns-then-is_local : goal.returns-then-is_local
returns-then-is_local c = out.local_comes (walk_of c.args.self.make) c.args.word c.args.self.levels c.args.cursor.now c.is_local.result c.is_local.ensures c.if-is_local.true

pub returns-then-arguments_follow : goal.returns-then-arguments_follow
returns-then-arguments_follow c = out.unknown_comes (walk_of c.args.self.make) (word_by c.args.word) c.args.self.levels c.args.cursor.now c.arguments_follow.new.self (Ok (part.Head (head.Call None c.args.word))) c.is_local.result c.is_local.ensures c.if-is_local.false (out.looks_then (IsPart (walk_of c.args.self.make)) c.args.self.levels (done (p.head (p.of_call None (word_by c.args.word)))) (pick (look.is_marked c.args.word.text.now) (done (as_value (tree.call None (word_by c.args.word) []))) (done (p.plain (p.bare (word_by c.args.word))))) c.args.cursor.now c.arguments_follow.new.self (Ok (part.Head (head.Call None c.args.word))) c.arguments_follow.result c.arguments_follow.ensures.answer c.if-arguments_follow.true c.arguments_follow.ensures.looks (record { value = p.head (p.of_call None (word_by c.args.word)); reads = refl; same = headed of_call }))

pub returns-then-is_marked : goal.returns-then-is_marked
returns-then-is_marked c = out.unknown_comes (walk_of c.args.self.make) (word_by c.args.word) c.args.self.levels c.args.cursor.now c.arguments_follow.new.self c.as_value.result c.is_local.result c.is_local.ensures c.if-is_local.false (out.looks_else (IsPart (walk_of c.args.self.make)) c.args.self.levels (done (p.head (p.of_call None (word_by c.args.word)))) (pick (look.is_marked c.args.word.text.now) (done (as_value (tree.call None (word_by c.args.word) []))) (done (p.plain (p.bare (word_by c.args.word))))) c.args.cursor.now c.arguments_follow.new.self c.as_value.result c.arguments_follow.result c.arguments_follow.ensures.answer c.if-arguments_follow.false c.arguments_follow.ensures.looks (out.marked_comes (walk_of c.args.self.make) (word_by c.args.word) c.args.self.levels (once_looked c.args.cursor.now) c.as_value.result c.is_marked.result c.is_marked.ensures c.if-is_marked.true (c.as_value.ensures (walk_of c.args.self.make) (tree.call None (word_by c.args.word) []) (c.call.ensures [] c.row.ensures))))

pub returns : goal.returns
returns c = out.unknown_comes (walk_of c.args.self.make) (word_by c.args.word) c.args.self.levels c.args.cursor.now c.arguments_follow.new.self (Ok (part.Plain (operand.Bare c.args.word))) c.is_local.result c.is_local.ensures c.if-is_local.false (out.looks_else (IsPart (walk_of c.args.self.make)) c.args.self.levels (done (p.head (p.of_call None (word_by c.args.word)))) (pick (look.is_marked c.args.word.text.now) (done (as_value (tree.call None (word_by c.args.word) []))) (done (p.plain (p.bare (word_by c.args.word))))) c.args.cursor.now c.arguments_follow.new.self (Ok (part.Plain (operand.Bare c.args.word))) c.arguments_follow.result c.arguments_follow.ensures.answer c.if-arguments_follow.false c.arguments_follow.ensures.looks (record { value = p.plain (p.bare (word_by c.args.word)); reads = out.picks_second (look.is_marked c.args.word.text.now) (done (as_value (tree.call None (word_by c.args.word) []))) (done (p.plain (p.bare (word_by c.args.word)))) c.args.self.levels (once_looked c.args.cursor.now) (sym c.is_marked.ensures ∙ c.if-is_marked.false); same = plain bare }))
