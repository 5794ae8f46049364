use Rattle.rb_closure.proofs.Entries.{main_asks_moved}
use Rattle.rb_closure.proofs.laws.main_asks_what_moved.Goals as goal

pub returns : goal.returns
returns c = main_asks_moved
