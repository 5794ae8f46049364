use Rattle.rb_builder.proofs.Making.{gathered, numbered}
use Rattle.rb_builder.proofs.builder.Builder.body.Goals as goal

pub returns-in-None : goal.returns-in-None
returns-in-None c = gathered c.args.self.now _ (λ n. n.body c.args.at) c.in-None.is

pub returns-in-Some : goal.returns-in-Some
returns-in-Some c = numbered c.args.self.now c.in-Some.numbers _ (λ n. n.body c.args.at) c.in-Some.is c.body.ensures
