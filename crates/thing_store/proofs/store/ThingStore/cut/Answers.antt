use Rattle.std.proofs.Common.{drop, ap, sym, ◌∙◌, subst}
use Rattle.rb_shared.specs.Store.{threads}
use Rattle.thing_store.specs.Counted.{IsCounted}
use Rattle.thing_store.proofs.Counting.{counted_take}
use Rattle.thing_store.proofs.store.ThingStore.cut.Goals as goal

pub invariant_of-self : goal.invariant_of-self
invariant_of-self c =
    subst (λ z. IsCounted z c.self.inside.started.rows.items c.self.inside.started.ungathered) (sym c.truncate.ensures)
    (counted_take c.args.count c.self.inside.things c.self.inside.started.rows.items c.self.inside.started.ungathered (ap (λ z. threads (drop c.args.count z)) c.self.view_is ∙ c.requires) c.self.invariant)
