use Rattle.rb_builder.specs.Builder.{walk_of}
use Rattle.rb_builder.specs.Grown.{Made}
use Rattle.rb_builder.specs.Said.{text_given}
use Rattle.std.proofs.lemmas.Result.{IfOk-weaker}
use Rattle.rb_builder.proofs.Making.{gathered, numbered}
use Rattle.rb_builder.proofs.builder.Builder.number.Goals as goal

pub returns-in-None-clause-ok : goal.returns-in-None-clause-ok
returns-in-None-clause-ok c = gathered c.args.self.now _ _ c.in-None.is

pub returns-in-Some-clause-ok : goal.returns-in-Some-clause-ok
returns-in-Some-clause-ok c =
    IfOk-weaker c.given.result _ (λ id. Made (walk_of c.args.self.now) id (λ n. n.name (text_given c.args.given)))
    (λ id e. numbered c.args.self.now c.in-Some.numbers id (λ n. n.name (text_given c.args.given)) c.in-Some.is e) c.given.ensures.ok
