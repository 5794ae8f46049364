use Rattle.std.proofs.Common.{rules, ap, ◌∙◌}
use Rattle.atomic_table.specs.Table.{rest}
use Rattle.rb_shared.specs.View.{with_entry}
use Rattle.turn_store.specs.Holding.{released}
use Rattle.turn_store.proofs.Keeps.{makes_as}
use Rattle.turn_store.proofs.store.TurnStore.leave.Goals as goal

pub store-requires : goal.store-requires
store-requires g c = (search rules, search rules, makes_as _ _ _ _ _ _ _ _ _ c.requires.made)

pub returns-clause-left : goal.returns-clause-left
returns-clause-left g c =
    let m = c.args.seat.now.me in
    c.store.ensures.2 ∙ ap (λ l. (released m.0 (with_entry m.0.view g.J.Naming.entry g.J.Naming.refs), rest l)) c.requires.made.3.1
