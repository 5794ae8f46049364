use Rattle.std.proofs.Common.{sym, subst, map}
use Rattle.rb_grammar.specs.Scope.{leave}
use Rattle.rb_grammar.specs.Grammar.{rule}
use Rattle.rb_cursor.specs.Word.{word_by}
use Rattle.rb_cursor.proofs.Steps.{handed_on, takes, misses, holds, fails, through, carry}
use Rattle.rb_builder.specs.Builder.{walk_of}
use Rattle.rb_builder.specs.Script.{IsMethod}
use Rattle.rb_steps.specs.Within.{within_method, name_of}
use Rattle.rb_phrases.proofs.Ends.{at_the_rule, fails_at_the_rule}
use Rattle.rb_phrases.proofs.Scripts.{stops_or_wants, leaves, named_at}
use Rattle.rb_phrases.proofs.parser.Parser.method.Goals as goal

pub returns-in_err-name : goal.returns-in_err-name
unfolding rule
returns-in_err-name c =
    handed_on _ _ c.from_residual.result c.from_residual.ensures.1
    c.in_err-name.ensures.went

pub returns-in_err-body : goal.returns-in_err-body
unfolding rule
returns-in_err-body c =
    handed_on _ _ c.from_residual-in_err-body.result c.from_residual-in_err-body.ensures.1
    (through c.in_ok-name.ensures.went.comes (fails_at_the_rule c.args.self.levels (within_method (name_of c.in_ok-name.field-0) (map word_by c.in_ok-name.field-0.params)) (fails c.in_err-body.ensures)))

pub returns-in_err-expect : goal.returns-in_err-expect
unfolding rule
returns-in_err-expect c =
    let body = c.in_ok-body.ensures in
    handed_on _ _ c.from_residual-in_err-expect.result c.from_residual-in_err-expect.ensures.1
    (through c.in_ok-name.ensures.went.comes (fails_at_the_rule c.args.self.levels (within_method (name_of c.in_ok-name.field-0) (map word_by c.in_ok-name.field-0.params)) (holds body (misses c.in_err-expect.ensures.took))))

pub returns : goal.returns
unfolding rule
returns c =
    let body = c.in_ok-body.ensures in
    carry _ _ c.method.result c.in_ok-name.ensures.went.comes
    (at_the_rule c.args.self.levels (within_method (name_of c.in_ok-name.field-0) (map word_by c.in_ok-name.field-0.params)) (holds body (takes c.in_ok-expect.ensures.took (leaves leave c.leave.ensures
    (stops_or_wants _ c.method.result c.method.ensures.ok c.method.ensures.memory
    (λ b made. subst (λ ws. IsMethod (walk_of c.args.self.make) b (record { name = name_of c.in_ok-name.field-0; params = map word_by ws; body = body.value })) c.as_slice.ensures
    (made (name_of c.in_ok-name.field-0) body.value (sym c.given_name.ensures) (named_at c.in_ok-name.field-0.is_setter (word_by c.in_ok-name.field-0.name)) body.same)))))))
