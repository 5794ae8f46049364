use Rattle.std.proofs.Common.{◌≡◌, rules, ap, sym, subst, ◌∙◌, arith}
use Rattle.atomic_table.specs.Seated.{TableId}
use Rattle.heap_core.specs.Passes.{Fits, holder_of}
use Rattle.heap_core.specs.View.{InOwn, with_stored}
use Rattle.heap_core.proofs.Fitting.{is_pass, stored_fits}
use Rattle.heap_core.proofs.Takes.{own_stores}
use Rattle.heap_core.proofs.pass.Heap.store_own.Goals as goal

pub store-requires : goal.store-requires
store-requires g c =
    let same = sym (ap holder_of c.into_seat-seat.ensures.2) ∙ ap (λ b. holder_of b.views) c.replace-badge.ensures.value in
    let fits = c.args.pass.now.rests.1 in
    let own = fits.own c.requires.own.0 c.requires.own.1 in
    let hi = c.requires.own.2.1 in
    let words = ap (λ (t : TableId). t.words) c.requires.of in
    (search rules, omega (arith, own, hi, words), own_stores _ _ _ _ _ _ (ap (λ k. k.live) same ∙ fits.live) (subst (InOwn c.args.at) (sym same) c.requires.own))

pub invariant_of-pass : goal.invariant_of-pass
invariant_of-pass g c =
    let same = sym (ap holder_of c.into_seat-seat.ensures.2) ∙ ap (λ b. holder_of b.views) c.replace-badge.ensures.value in
    let here : c.into_badge.result.table_id ≡ c.args.pass.now.badge.table_id = search rules in
    let after = ap (λ m. m.0) c.store.ensures.2 ∙ ap (λ k. with_stored k c.args.at c.args.word) same in
    record { rests = is_pass _ _ _ c.into_badge.ensures.2 (subst (λ (t : TableId). Fits c.store.new.seat.me.0 t.words) (sym here) (subst (λ k. Fits k c.args.pass.now.badge.table_id.words) (sym after) (stored_fits _ _ _ _ c.args.pass.now.rests.1))) }
