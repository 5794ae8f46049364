use Rattle.rb_checker.proofs.Holding.{key_more}
use Rattle.rb_checker.proofs.settling.add_held.Goals as goal

pub returns : goal.returns
returns c = λ other. key_more c.args.set.now c.insert.new.self c.args.key other (c.in_default.ensures.updates.0 other)
