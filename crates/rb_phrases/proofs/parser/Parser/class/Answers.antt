use Rattle.std.proofs.Common.{subst}
use Rattle.rb_grammar.specs.Phrase as p
use Rattle.rb_grammar.specs.Grammar.{rule}
use Rattle.rb_cursor.proofs.Steps.{at_phrase, fails_at, handed_on, takes, takes_word, misses, holds, fails}
use Rattle.rb_builder.specs.Builder.{walk_of}
use Rattle.rb_builder.specs.Script.{IsClass}
use Rattle.rb_phrases.proofs.Scripts.{stops_or_wants}
use Rattle.rb_phrases.proofs.parser.Parser.class.Goals as goal

pub returns-in_err-name : goal.returns-in_err-name
unfolding rule
returns-in_err-name c =
    handed_on _ _ c.from_residual.result c.from_residual.ensures.1
    (fails_at c.args.self.levels p.class_rest (misses c.in_err-name.ensures.word))

pub returns-in_err-expect : goal.returns-in_err-expect
unfolding rule
returns-in_err-expect c =
    handed_on _ _ c.from_residual-in_err-expect.result c.from_residual-in_err-expect.ensures.1
    (fails_at c.args.self.levels p.class_rest (takes_word c.in_ok-name.ensures.word (misses c.in_err-expect.ensures.took)))

pub returns-in_err-members : goal.returns-in_err-members
unfolding rule
returns-in_err-members c =
    handed_on _ _ c.from_residual-in_err-members.result c.from_residual-in_err-members.ensures.1
    (fails_at c.args.self.levels p.class_rest (takes_word c.in_ok-name.ensures.word (takes c.in_ok-expect.ensures.took (fails c.in_err-members.ensures))))

pub returns : goal.returns
unfolding rule
returns c =
    let members = c.in_ok-members.ensures in
    at_phrase c.args.self.levels p.class_rest (takes_word c.in_ok-name.ensures.word (takes c.in_ok-expect.ensures.took (holds members (stops_or_wants _ c.class.result c.class.ensures.ok c.class.ensures.memory (λ b made. subst (λ w. IsClass (walk_of c.args.self.make) b (record { name = w; members = members.value })) c.in_ok-name.ensures.word.word (made members.value members.same))))))
