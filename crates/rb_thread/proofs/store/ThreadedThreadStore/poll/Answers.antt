use Rattle.rb_thread.proofs.Keeping.{alive_polled}
use Rattle.rb_thread.proofs.store.ThreadedThreadStore.poll.Goals as goal

pub returns-clause-live : goal.returns-clause-live
returns-clause-live g c = alive_polled c.requires.live c.poll.ensures.home c.poll.ensures.view
