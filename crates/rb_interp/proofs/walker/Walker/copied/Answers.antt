use Rattle.std.proofs.Common.{◌∙◌, refl, sym}
use Rattle.rb_walk.proofs.Collections.{read_at}
use Rattle.rb_walk.proofs.Objects.{none_there}
use Rattle.rb_interp.proofs.walker.Walker.copied.Goals as goal

pub reply_of-requires : goal.reply_of-requires
reply_of-requires g c = record { shared = none_there _ (sym c.holds.ensures ∙ c.if-not-holds.true) }

pub returns-in-Ok-clause-reads : goal.returns-in-Ok-clause-reads
returns-in-Ok-clause-reads g c = λ purpose at S start k sc d a.
    let y = c.in-Ok.ensures in
    rw y.log (read_at S _ start _ _ _ (record { sort = c.args.thing.sort; id = c.args.thing.id }) c.in-Ok.reply purpose at k sc d _ (sym c.if-not-holds.ensures) y.reply y.private a)
