use Rattle.std.proofs.Common.{ap}
use Rattle.rb_builder.specs.Builder.{walk_of}
use Rattle.rb_parser.proofs.Walking.{walked_from}
use Rattle.rb_parser.proofs.parser.walk.Goals as goal

pub returns : goal.returns
returns c =
    walked_from (walk_of c.new-2.result.make) (walk_of c.args.make) c.new-2.result.levels c.in_ok-cursor.cursor c.args.tokens.now c.script.new.cursor c.script.result
    (ap walk_of c.new-2.ensures.make) c.new-2.ensures.levels c.in_ok-cursor.ensures.ok c.requires.ends c.script.ensures
