use Rattle.rb_machine.proofs.Scoping.{scopes_follow_the_text}
use Rattle.rb_machine.proofs.laws.scopes.Goals as goal

pub returns : goal.returns
returns c = scopes_follow_the_text
