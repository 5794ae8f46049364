use Rattle.std.proofs.Common.{◌≡◌, rules, ap, sym, subst, ◌∙◌}
use Rattle.atomic_table.specs.Seated.{TableId}
use Rattle.rb_model.specs.Log.{asked}
use Rattle.heap_core.specs.Passes.{Fits, holder_of}
use Rattle.heap_core.specs.Starting.{LaidFor, born_of}
use Rattle.heap_core.proofs.Fitting.{born_fits, is_pass}
use Rattle.heap_core.proofs.pass.Heap.start_laid.Goals as goal

pub invariant_of-pass : goal.invariant_of-pass
invariant_of-pass g c =
    let same = sym (ap holder_of c.into_seat-seat.ensures.2) ∙ ap (λ b. holder_of b.views) c.replace-badge.ensures.value in
    let here : c.into_badge.result.table_id ≡ c.args.pass.now.badge.table_id = search rules in
    let born = born_of c.args.act.now.step (asked c.args.act.now.call.now) c.args.turn.started c.args.thread.now c.args.line in
    record {
      rests = is_pass _ _ _ c.into_badge.ensures.2 (subst (λ (t : TableId). Fits c.enter_start.new.seat.me.0 t.words) (sym here) (subst (λ k. Fits k c.args.pass.now.badge.table_id.words) (sym c.enter_start.ensures.made)
          (born_fits c.into_seat-seat.result.me.0 _ born (subst (λ k. LaidFor k born) (sym same) c.requires.laid) (subst (λ k. Fits k c.args.pass.now.badge.table_id.words) (sym same) c.args.pass.now.rests.1))));
    }
