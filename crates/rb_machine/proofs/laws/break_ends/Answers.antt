use Rattle.rb_machine.proofs.Exits.{break_ends_loops, break_ends_blocks}
use Rattle.rb_machine.proofs.laws.break_ends.Goals as goal

pub returns-clause-loops : goal.returns-clause-loops
returns-clause-loops c = break_ends_loops

pub returns-clause-blocks : goal.returns-clause-blocks
returns-clause-blocks c = break_ends_blocks
