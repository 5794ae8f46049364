use Rattle.std.proofs.Common.{◌≡◌, arith, ap, sym, subst, ◌∙◌}
use Rattle.heap_core.specs.Blocks.{ThreadAt}
use Rattle.heap_core.specs.Ending.{IsOwnThread}
use Rattle.heap_core.specs.Passes.{holder_of}
use Rattle.heap_core.specs.View.{Ends, busy_at}
use Rattle.heap_core.proofs.Doings.{busy_set}
use Rattle.heap_core.proofs.Finishing.{both_laid, lays_result, lays_state}
use Rattle.heap_core.proofs.pass.Heap.lay_end.Goals as goal

pub store-requires-clause-allows : goal.store-requires-clause-allows
store-requires-clause-allows g c = lays_result _ _ _ c.args.at c.requires.own.1 _ c.requires.own.0 _ c.args.pass.now.rests.1.live c.requires.going c.requires.own.2

pub store-requires-2-clause-allows : goal.store-requires-2-clause-allows
store-requires-2-clause-allows g c =
    let k = holder_of c.args.pass.now.badge.views in
    let told = c.store.ensures.told (ThreadAt c.requires.own.0 k.view.thread c.requires.own.1 c.args.at) c.requires.own.2 (omega arith, omega arith) in
    let one = told.1 in
    let own = subst (λ u. IsOwnThread u c.args.at) (sym one.1) c.requires.own in
    let busy : busy_at c.args.at (holder_of c.store.new.pass.badge.views).doing ≡ Ends one.0 c.args.told = ap (λ u. busy_at c.args.at u.doing) one.1 ∙ busy_set c.args.at (Ends one.0 c.args.told) k.doing in
    lays_state _ _ _ c.args.at own.1 _ one.0 c.args.told own.0 _ c.store.new.pass.rests.1.live (ap (λ u. u.view.ended) one.1 ∙ c.requires.going) own.2 busy

pub returns-clause-laid : goal.returns-clause-laid
returns-clause-laid g c =
    let k = holder_of c.args.pass.now.badge.views in
    let told = c.store.ensures.told (ThreadAt c.requires.own.0 k.view.thread c.requires.own.1 c.args.at) c.requires.own.2 (omega arith, omega arith) in
    let one = told.1 in
    let own = subst (λ u. IsOwnThread u c.args.at) (sym one.1) c.requires.own in
    let two = c.store-2.ensures.told (ThreadAt own.0 (holder_of c.store.new.pass.badge.views).view.thread own.1 c.args.at) own.2 (omega arith, omega arith) in
    both_laid k _ _ c.args.at one.0 c.args.state c.args.told one.1 two

pub returns-clause-apart : goal.returns-clause-apart
returns-clause-apart g c =
    let k = holder_of c.args.pass.now.badge.views in
    (c.store.ensures.told (ThreadAt c.requires.own.0 k.view.thread c.requires.own.1 c.args.at) c.requires.own.2 (omega arith, omega arith)).0
