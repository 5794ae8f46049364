use Rattle.rb_walk.proofs.Sharing.{start_replied, start_full}
use Rattle.rb_interp.proofs.walker.Walker.started.Goals as goal

pub returns-in-Done-clause-replies : goal.returns-in-Done-clause-replies
returns-in-Done-clause-replies g c = start_replied _ _ _ _ _ _ c.args.body c.args.values.items c.in-Done.reply c.in-Done.ensures

pub returns-in-Full-clause-ends : goal.returns-in-Full-clause-ends
returns-in-Full-clause-ends g c =
    let o = c.end.ensures in
    rw (o.gives, o.stays.3) (start_full _ _ _ _ _ _ c.args.body c.args.values.items c.in-Full.used c.in-Full.asked c.in-Full.ensures)
