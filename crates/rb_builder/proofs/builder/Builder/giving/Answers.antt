use Rattle.std.proofs.Common.{[]}
use Rattle.rb_builder.specs.Builder.{walk_of}
use Rattle.rb_builder.proofs.Saying.{said_nothing}
use Rattle.rb_builder.proofs.builder.Builder.giving.Goals as goal

pub returns-clause-ok : goal.returns-clause-ok
returns-clause-ok c = λ w same.
    c.in_ok-gather.ensures.ok [] [] w same (said_nothing (walk_of c.args.self.now) c.new-said.result c.new-said.ensures.words c.new-said.ensures.threads c.new-said.ensures.bodies)
