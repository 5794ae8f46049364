use Rattle.std.proofs.Common.{◌≡◌, rules, ap, sym, subst, ◌∙◌, arith}
use Rattle.atomic_table.specs.Seated.{TableId}
use Rattle.heap_core.specs.Passes.{Fits, holder_of}
use Rattle.heap_core.proofs.Fitting.{is_pass}
use Rattle.heap_core.proofs.Takes.{own_loads}
use Rattle.heap_core.proofs.pass.Heap.load_own.Goals as goal

pub load-word-requires : goal.load-word-requires
load-word-requires g c =
    let same = sym (ap holder_of c.into_seat-seat.ensures.2) ∙ ap (λ b. holder_of b.views) c.replace-badge.ensures.value in
    let fits = c.args.pass.now.rests.1 in
    let own = fits.own c.requires.own.0 c.requires.own.1 in
    let hi = c.requires.own.2.1 in
    let words = ap (λ (t : TableId). t.words) c.requires.of in
    (search rules, omega (arith, own, hi, words), own_loads _ _ _ _ _)

pub invariant_of-pass : goal.invariant_of-pass
invariant_of-pass g c =
    let same = sym (ap holder_of c.into_seat-seat.ensures.2) ∙ ap (λ b. holder_of b.views) c.replace-badge.ensures.value in
    let here : c.into_badge.result.table_id ≡ c.args.pass.now.badge.table_id = search rules in
    let after = ap (λ m. m.0) c.load-word.ensures.2.1 ∙ same in
    record { rests = is_pass _ _ _ c.into_badge.ensures.2 (subst (λ (t : TableId). Fits c.load-word.new.seat.me.0 t.words) (sym here) (subst (λ k. Fits k c.args.pass.now.badge.table_id.words) (sym after) c.args.pass.now.rests.1)) }
