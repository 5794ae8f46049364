use Rattle.rb_thread.proofs.Keeping.{alive_own}
use Rattle.rb_thread.proofs.Owning.{by_applying}
use Rattle.rb_thread.proofs.store.ThreadedThreadStore.apply.Goals as goal

pub returns-clause-live : goal.returns-clause-live
returns-clause-live g c =
    alive_own (by_applying c.apply.result _ _ c.args.id _ c.requires.there c.apply.ensures.private c.apply.ensures.err) c.requires.live
