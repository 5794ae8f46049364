use Rattle.std.proofs.Common.{subst}
use Rattle.rb_machine.specs.Methods.{Answer}
use Rattle.rb_walk.specs.Walks.{OpensBy}
use Rattle.rb_walk.proofs.Turns.{block_cut}
use Rattle.rb_interp.proofs.walker.Walker.iterations.Goals as goal

pub returns-in_default-clause-opens : goal.returns-in_default-clause-opens
returns-in_default-clause-opens g c = λ name e S start h b k sc d a.
    block_cut S _ start h _ _ _ b c.args.at k sc d _ c.over.ensures.gives a

pub returns-in-Ok-clause-opens : goal.returns-in-Ok-clause-opens
returns-in-Ok-clause-opens g c = λ name e.
    let said = rw c.in-Some.ensures at c.in-Ok.ensures in
    subst (λ (x : Answer). OpensBy x c.args.self.now.context.steps c.args.at c.args.self.now.left (g.O.ThreadStore.log c.args.self.now.store) c.opened.result c.opened.new.self.value c.opened.new.self.leave) (said name e) c.opened.ensures.opens

pub returns-in-Err-clause-opens : goal.returns-in-Err-clause-opens
returns-in-Err-clause-opens g c = λ name e S start h b k sc d a.
    block_cut S _ start h _ _ _ b c.args.at k sc d _ c.over-in-Err.ensures.gives a
