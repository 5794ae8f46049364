use Rattle.std.proofs.Common.{rules}
use Rattle.rb_command.proofs.Numerals.{past_every_range}
use Rattle.rb_command.proofs.numbers.number_in.Goals as goal

pub returns-in-Err : goal.returns-in-Err
returns-in-Err c = past_every_range c.args.least c.args.most c.args.word.now (search rules) (search rules) c.in-Err.ensures.value.0
