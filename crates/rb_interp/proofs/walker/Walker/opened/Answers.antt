use Rattle.rb_builtin.specs.Deeds.{turns_of}
use Rattle.rb_walk.proofs.Turns.{block_cut}
use Rattle.rb_walk.proofs.Walks.{counted}
use Rattle.rb_interp.proofs.walker.Walker.opened.Goals as goal

pub returns-in-Walk-clause-opens : goal.returns-in-Walk-clause-opens
returns-in-Walk-clause-opens g c = rw c.in-Walk.is (counted _ c.args.at _ _ _ _ _ (turns_of c.in-Walk.turns) c.iterations_of.ensures)

pub returns-clause-opens : goal.returns-clause-opens
returns-clause-opens g c = λ S start h b k sc d a.
    block_cut S _ start h _ _ _ b c.args.at k sc d _ c.over.ensures.gives a
