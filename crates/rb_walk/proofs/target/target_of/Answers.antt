use Rattle.std.proofs.Common.{sym, ap, ◌∙◌}
use Rattle.std.specs.Option.{option_copied}
use Rattle.rb_walk.proofs.Targets.{target_is, target_none}
use Rattle.rb_walk.proofs.target.target_of.Goals as goal

pub returns-in_err-method-clause-none : goal.returns-in_err-method-clause-none
returns-in_err-method-clause-none c = λ e. rw c.in-Ref.is (target_none c.args.script.now c.in-Ref.object c.in-Object.class c.args.name c.in-Object.is (sym c.method_of.ensures ∙ ap option_copied (c.in_err-method.was)))

pub returns-clause-some : goal.returns-clause-some
returns-clause-some c = rw c.in-Ref.is (target_is c.args.script.now c.in-Ref.object c.in-Object.class c.args.name c.in_ok-method.method.now c.in-Object.is (sym c.method_of.ensures ∙ ap option_copied (c.in_ok-method.was)))
