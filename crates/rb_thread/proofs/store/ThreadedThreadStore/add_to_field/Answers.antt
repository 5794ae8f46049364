use Rattle.rb_thread.proofs.Keeping.{alive_own}
use Rattle.rb_thread.proofs.Owning.{by_adding}
use Rattle.rb_thread.proofs.store.ThreadedThreadStore.add_to_field.Goals as goal

pub returns-clause-live : goal.returns-clause-live
returns-clause-live g c =
    let y = c.add_to_field.ensures in
    alive_own (by_adding c.add_to_field.result _ _ c.args.id _ y.there y.private y.none) c.requires.live
