use Rattle.rb_thread.proofs.Keeping.{alive_own}
use Rattle.rb_thread.proofs.Owning.{by_putting}
use Rattle.local_heap.specs.Contents.{was_done}
use Rattle.rb_thread.proofs.store.ThreadedThreadStore.push_immediate.Goals as goal

pub returns-in-Ok-clause-live : goal.returns-in-Ok-clause-live
returns-in-Ok-clause-live g c =
    let y = c.push_immediate.ensures in
    alive_own (by_putting (was_done c.push_immediate.result) _ _ _ c.args.id _ y.there y.told y.private y.kept) c.requires.live

pub returns-in-Err-clause-live : goal.returns-in-Err-clause-live
returns-in-Err-clause-live g c =
    let y = c.push_immediate.ensures in
    alive_own (by_putting (was_done c.push_immediate.result) _ _ _ c.args.id _ y.there y.told y.private y.kept) c.requires.live
