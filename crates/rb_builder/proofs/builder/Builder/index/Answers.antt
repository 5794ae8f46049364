use Rattle.rb_builder.proofs.builder.Builder.index.Goals as goal

pub returns : goal.returns
returns c = λ a b t u. c.binary.ensures a b t u
