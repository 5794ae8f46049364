use Rattle.rb_model.specs.Doing.{doing}
use Rattle.rb_model.specs.Immediates.{reference}
use Rattle.rb_walk.proofs.Sharing.{act_replied, act_filled}
use Rattle.rb_interp.proofs.walker.Walker.reply_of.Goals as goal

pub returns-in-Done-clause-replies : goal.returns-in-Done-clause-replies
returns-in-Done-clause-replies g c =
    act_replied _ _ _ _ _ _ (reference c.args.thing) (doing c.args.act) c.in-Done.reply c.requires.shared c.in-Done.ensures

pub returns-in-Full-clause-ends : goal.returns-in-Full-clause-ends
returns-in-Full-clause-ends g c =
    let o = c.end.ensures in
    rw (o.gives, o.stays.3) (act_filled _ _ _ _ _ _ (reference c.args.thing) (doing c.args.act) c.in-Full.used c.in-Full.asked c.requires.shared c.in-Full.ensures)
