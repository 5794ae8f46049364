use Rattle.rb_thread.proofs.Keeping.{alive_own}
use Rattle.rb_thread.proofs.Owning.{by_putting}
use Rattle.rb_thread.proofs.store.ThreadedThreadStore.put_immediate.Goals as goal

pub returns-clause-live : goal.returns-clause-live
returns-clause-live g c =
    let y = c.put_immediate.ensures in
    alive_own (by_putting c.put_immediate.result _ _ _ c.args.id _ y.there y.told y.private y.kept) c.requires.live
