use Rattle.std.proofs.Common.{◌≡◌, rules, ap, sym, subst, ◌∙◌}
use Rattle.atomic_table.specs.Seated.{TableId}
use Rattle.heap_core.specs.Passes.{Fits, holder_of}
use Rattle.heap_core.specs.View.{AtRest, joined}
use Rattle.heap_core.proofs.Passing.{joins}
use Rattle.heap_core.proofs.Fitting.{is_pass, joined_fits}
use Rattle.heap_core.proofs.pass.Heap.join.Goals as goal

pub join_seat-requires : goal.join_seat-requires
join_seat-requires g c =
    let same = sym (ap holder_of c.into_seat-seat.ensures.2) ∙ ap (λ b. holder_of b.views) c.replace-badge.ensures.value in
    let other = sym (ap holder_of c.into_seat.ensures.2) in (
      search rules,
      search rules,
      search rules,
      search rules,
      joins _ _ _ _ _ (ap (λ k. k.live) same ∙ c.args.pass.now.rests.1.live) (ap (λ k. k.live) other ∙ c.args.other.rests.1.live) (subst AtRest (sym other) c.requires.rests),
    )

pub invariant_of-pass : goal.invariant_of-pass
invariant_of-pass g c =
    let same = sym (ap holder_of c.into_seat-seat.ensures.2) ∙ ap (λ b. holder_of b.views) c.replace-badge.ensures.value in
    let other = sym (ap holder_of c.into_seat.ensures.2) in
    let k = c.into_seat-seat.result.me.0 in
    let u = c.into_seat.result.me.0 in
    let here : c.into_badge.result.table_id ≡ c.args.self.now.table.shared.table_id = search rules in
    let own : Fits k c.args.self.now.table.shared.table_id.words = subst (λ (t : TableId). Fits k t.words) c.requires.of (subst (λ x. Fits x c.args.pass.now.badge.table_id.words) (sym same) c.args.pass.now.rests.1) in
    let theirs : Fits u c.args.self.now.table.shared.table_id.words = subst (λ (t : TableId). Fits u t.words) c.requires.other (subst (λ x. Fits x c.args.other.badge.table_id.words) (sym other) c.args.other.rests.1) in
    record { rests = is_pass _ (joined k u) _ (search rules) (subst (λ (t : TableId). Fits (joined k u) t.words) (sym here) (joined_fits k u _ own theirs)) }
