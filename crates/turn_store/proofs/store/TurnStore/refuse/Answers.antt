use Rattle.std.proofs.Common.{rules, None, ◌∙◌}
use Rattle.atomic_table.specs.Table.{rest}
use Rattle.rb_shared.specs.View.{with_refused}
use Rattle.turn_store.specs.Holding.{released}
use Rattle.turn_store.proofs.Keeps.{refuses_as}
use Rattle.turn_store.proofs.store.TurnStore.refuse.Goals as goal

pub store-requires : goal.store-requires
store-requires g c = (search rules, search rules, refuses_as _ _ _ _ _ _ _ _ _ _ c.requires.refused.0 c.requires.may)

pub returns-clause-left : goal.returns-clause-left
returns-clause-left g c =
    let m = c.args.seat.now.me in
    c.store.ensures.2 ∙ (λ i. (released m.0 (with_refused m.0.view (c.requires.refused.0 i) (c.requires.refused.1 i) None), rest (c.requires.may.2.1 i)))
