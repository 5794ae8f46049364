use Rattle.rb_thread.proofs.Keeping.{alive_own}
use Rattle.rb_thread.proofs.Owning.{by_taking}
use Rattle.rb_model.specs.Immediates.{taking}
use Rattle.rb_thread.proofs.store.ThreadedThreadStore.take_immediate.Goals as goal

pub returns-clause-live : goal.returns-clause-live
returns-clause-live g c =
    let y = c.take_immediate.ensures in
    alive_own (by_taking c.take_immediate.result _ _ c.args.id (taking c.args.side) y.told y.private y.kept) c.requires.live
