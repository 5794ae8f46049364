use Rattle.std.proofs.Common.{subst}
use Rattle.rb_builder.specs.Grown.{Builds}
use Rattle.rb_phrases.proofs.Outside as out
use Rattle.rb_phrases.proofs.operand.as_value.Goals as goal

pub returns-in_err-built : goal.returns-in_err-built
returns-in_err-built c = λ w a b. out.still_unbuilt w a c.from_residual.result c.in_err-built.field-0.0 c.from_residual.ensures.1 (subst (λ x. Builds w a x) c.in_err-built.was b)

pub returns : goal.returns
returns c = λ w a b. (c.in_ok-built.field-0, c.value.ensures, subst (λ x. Builds w a x) c.in_ok-built.was b)
