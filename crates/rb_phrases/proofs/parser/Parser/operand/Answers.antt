use Rattle.std.proofs.Common.{subst}
use Rattle.rb_builder.specs.Builder.{walk_of}
use Rattle.rb_builder.specs.Operand.{IsPart}
use Rattle.rb_phrases.proofs.Outside as out
use Rattle.rb_phrases.proofs.parser.Parser.operand.Goals as goal

pub returns-in-Plain : goal.returns-in-Plain
returns-in-Plain c = λ q r. out.operand_comes (walk_of c.args.self.make) c.in-Plain.operand q c.args.self.levels c.args.cursor.now c.operand.result (subst (λ x. IsPart (walk_of c.args.self.make) x q) c.in-Plain.is r) c.operand.ensures

pub returns : goal.returns
returns c = λ q r. out.head_is_refused (walk_of c.args.self.make) c.in-Head.field-0 q c.args.self.levels c.args.cursor.now c.refusal.result (subst (λ x. IsPart (walk_of c.args.self.make) x q) c.in-Head.is r) c.refusal.ensures
