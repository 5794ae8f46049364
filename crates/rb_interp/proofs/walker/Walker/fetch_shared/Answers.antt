use Rattle.std.proofs.Common.{refl}
use Rattle.rb_model.specs.Doing.{said}
use Rattle.rb_walk.proofs.Sharing.{reply_came}
use Rattle.rb_interp.proofs.walker.Walker.fetch_shared.Goals as goal

pub returns-in-Ok-clause-came : goal.returns-in-Ok-clause-came
returns-in-Ok-clause-came g c = λ S start k sc d a.
    let r = c.in-Ok.ensures.replies in
    let t = c.taken.ensures in
    rw (t.gives, t.stays.3) (reply_came S _ start _ _ (said c.in-Ok.reply) c.args.at k sc d _ r.0 (r.1 S start _ a refl refl))
