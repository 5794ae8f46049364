use Rattle.std.proofs.Common.{ap, ◌∙◌}
use Rattle.rb_model.specs.Moving.{item_of}
use Rattle.rb_shared.specs.Store.{thread_in}
use Rattle.thing_store.specs.Kept.{thing_of}
use Rattle.thing_store.specs.Counted.{number_in}
use Rattle.thing_store.proofs.Taking.{laid_counted, no_number, no_thread}
use Rattle.thing_store.proofs.store.ThingStore.lay.Goals as goal

pub invariant_of-self : goal.invariant_of-self
invariant_of-self c =
    let thing = (item_of c.args.item.now).thing in
    laid_counted c.add.result c.self.inside.things c.add.new.self (record { id = c.args.item.now.id; thing = thing_of c.in_ok-kept.kept }) c.self.inside.started.rows.items c.self.inside.started.ungathered
    c.add.ensures.ok c.add.ensures.err (ap thread_in c.in_ok-kept.ensures ∙ no_thread c.args.thread thing c.requires.may) (ap number_in c.in_ok-kept.ensures ∙ no_number c.args.thread thing c.requires.may) c.self.invariant
