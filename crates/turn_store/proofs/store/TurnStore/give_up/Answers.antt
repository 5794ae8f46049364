use Rattle.std.proofs.Common.{rules, ap, ◌∙◌}
use Rattle.atomic_table.specs.Table.{rest}
use Rattle.turn_store.specs.Holding.{released}
use Rattle.turn_store.proofs.Keeps.{gives_up_as}
use Rattle.turn_store.proofs.store.TurnStore.give_up.Goals as goal

pub store-requires : goal.store-requires
store-requires g c = (search rules, search rules, gives_up_as _ _ _ _ _ _ _ _ c.requires.may)

pub returns-clause-left : goal.returns-clause-left
returns-clause-left g c =
    let m = c.args.seat.now.me in c.store.ensures.2 ∙ ap (λ l. (released m.0 m.0.view, rest l)) c.requires.may.3.1
