use Rattle.std.proofs.Common.{reverse, sym}
use Rattle.rb_checker.specs.Locals.{scopes_of}
use Rattle.rb_checker.proofs.Settles.{not_of_name, apart}
use Rattle.rb_checker.proofs.unsettled.is_value_of.Goals as goal

pub returns-then-name-local : goal.returns-then-name-local
returns-then-name-local c = λ locals knows. sym (not_of_name locals c.args.name (scopes_of (reverse c.args.round.now)) c.args.local (apart c.args.name.0 c.args.local.name c.if-name-local.true))
