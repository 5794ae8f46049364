use Rattle.rb_thread.proofs.Keeping.{alive_own}
use Rattle.rb_thread.proofs.Owning.{by_making}
use Rattle.rb_thread.proofs.store.ThreadedThreadStore.make.Goals as goal

pub returns-clause-live : goal.returns-clause-live
returns-clause-live g c =
    alive_own (by_making c.make.result _ _ _ c.make.ensures.private c.make.ensures.err) c.requires.live
