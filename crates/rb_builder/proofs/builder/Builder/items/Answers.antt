use Rattle.std.proofs.Common.{[]}
use Rattle.rb_builder.specs.Builder.{walk_of}
use Rattle.rb_builder.proofs.Saying.{said_nothing}
use Rattle.rb_builder.proofs.Making.{the_same}
use Rattle.rb_builder.proofs.builder.Builder.items.Goals as goal

pub returns : goal.returns
returns c =
    let w = walk_of c.args.self.now in
    record {
      classes = the_same w c.new.result (λ n. []) (λ n. c.new.ensures);
      functions = the_same w c.new-2.result (λ n. []) (λ n. c.new-2.ensures);
      main = the_same w c.new-3.result (λ n. []) (λ n. c.new-3.ensures);
      said = said_nothing w c.new-4.result c.new-4.ensures.words c.new-4.ensures.threads c.new-4.ensures.bodies;
    }
