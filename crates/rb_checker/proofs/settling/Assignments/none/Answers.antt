use Rattle.std.proofs.Common.{refl}
use Rattle.rb_checker.proofs.Noting.{none_noted}
use Rattle.rb_checker.proofs.settling.Assignments.none.Goals as goal

pub returns : goal.returns
returns c = none_noted _ refl c.new.ensures.empty c.new-2.ensures.empty c.new-3.ensures.empty c.new-4.ensures.empty
