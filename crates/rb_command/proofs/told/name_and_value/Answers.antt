use Rattle.std.proofs.Common.{arith}
use Rattle.rb_command.proofs.Parted.{no_value}
use Rattle.std.proofs.lemmas.Str.Pattern.{split_once_first}
use Rattle.rb_command.proofs.told.name_and_value.Goals as goal

pub returns-in-None-clause-value : goal.returns-in-None-clause-value
returns-in-None-clause-value c = no_value c.args.word.now (rw c.in-None.is at (split_once_first 61 c.args.word.now _ c.split_once.ensures.cases (omega arith)))
