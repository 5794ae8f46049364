use Rattle.std.proofs.Common.{map, ap, sym, ◌∙◌}
use Rattle.thing_store.specs.Kept.{item_of}
use Rattle.thing_store.specs.Counted.{mutex_places}
use Rattle.thing_store.proofs.Freeing.{freed_stay}
use Rattle.thing_store.proofs.table.Things.free.Goals as goal

pub invariant_of-self : goal.invariant_of-self
invariant_of-self c = c.self.invariant ∙ sym (ap mutex_places c.free_all.ensures ∙ freed_stay c.args.thread (map item_of c.self.inside.rows.entries))
