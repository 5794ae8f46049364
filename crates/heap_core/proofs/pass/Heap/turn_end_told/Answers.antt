use Rattle.std.proofs.Common.{◌≡◌, rules, ap, sym, subst, ◌∙◌}
use Rattle.atomic_table.specs.Seated.{TableId}
use Rattle.heap_core.specs.Ending.{IsEndTold}
use Rattle.heap_core.specs.Passes.{Fits, holder_of}
use Rattle.heap_core.specs.View.{Ends, busy_at}
use Rattle.heap_core.proofs.Doings.{busy_set}
use Rattle.heap_core.proofs.Fitting.{is_pass}
use Rattle.heap_core.proofs.Parting.{laid_told, still_has, told_fits}
use Rattle.heap_core.proofs.pass.Heap.turn_end_told.Goals as goal

pub enter_told-requires-clause-laid : goal.enter_told-requires-clause-laid
enter_told-requires-clause-laid g c =
    let same = sym (ap holder_of c.into_seat-seat.ensures.2) ∙ ap (λ b. holder_of b.views) c.replace-badge.ensures.value in
    ap (λ k. busy_at c.args.at k.doing) (same ∙ c.lay_end.ensures.laid) ∙ busy_set c.args.at (Ends c.args.state c.args.told) (holder_of c.args.pass.now.badge.views).doing

pub enter_told-requires-clause-has : goal.enter_told-requires-clause-has
enter_told-requires-clause-has g c =
    let same = sym (ap holder_of c.into_seat-seat.ensures.2) ∙ ap (λ b. holder_of b.views) c.replace-badge.ensures.value in
    still_has (holder_of c.args.pass.now.badge.views) _ c.args.at c.args.state c.args.told c.args.turn (same ∙ c.lay_end.ensures.laid) c.lay_end.ensures.apart c.requires.has

pub invariant_of-pass : goal.invariant_of-pass
invariant_of-pass g c =
    let same = sym (ap holder_of c.into_seat-seat.ensures.2) ∙ ap (λ b. holder_of b.views) c.replace-badge.ensures.value in
    let here : c.into_badge.result.table_id ≡ c.lay_end.new.pass.badge.table_id = search rules in
    let told = subst (λ k. IsEndTold k c.args.act.now.call.now c.args.state c.args.told) (sym (same ∙ c.lay_end.ensures.laid)) (laid_told (holder_of c.args.pass.now.badge.views) c.args.act.now.call.now c.args.at c.args.state c.args.told c.requires.end) in
    record {
      rests = is_pass _ _ _ c.into_badge.ensures.2 (subst (λ (t : TableId). Fits c.enter_told.new.seat.me.0 t.words) (sym here) (subst (λ k. Fits k c.lay_end.new.pass.badge.table_id.words) (sym c.enter_told.ensures.ended)
          (told_fits c.into_seat-seat.result.me.0 _ c.args.act.now.step c.args.at c.args.state c.args.told c.args.act.now.call.now told (subst (λ k. Fits k c.lay_end.new.pass.badge.table_id.words) (sym same) c.lay_end.new.pass.rests.1))));
    }
