use Rattle.std.proofs.Common.{◌≡◌, rules, ap, sym, subst, ◌∙◌, arith}
use Rattle.atomic_table.specs.Seated.{TableId}
use Rattle.heap_core.specs.Passes.{Fits, holder_of}
use Rattle.heap_core.proofs.Fitting.{is_pass}
use Rattle.heap_core.proofs.Fixing.{fixed_loads}
use Rattle.heap_core.proofs.pass.Heap.load_fixed.Goals as goal

pub load-word-requires : goal.load-word-requires
load-word-requires g c =
    let same = sym (ap holder_of c.into_seat-seat.ensures.2) ∙ ap (λ b. holder_of b.views) c.replace-badge.ensures.value in
    let fits = c.args.pass.now.rests.1 in
    let in_heap = fits.blocks c.requires.known.0 c.requires.known.1 in
    let hi = c.requires.known.2.1 in
    let words = ap (λ (t : TableId). t.words) c.requires.of in
    (search rules, omega (arith, in_heap, hi, words), fixed_loads _ _ _ _ _)

pub invariant_of-pass : goal.invariant_of-pass
invariant_of-pass g c =
    let same = sym (ap holder_of c.into_seat-seat.ensures.2) ∙ ap (λ b. holder_of b.views) c.replace-badge.ensures.value in
    let here : c.into_badge.result.table_id ≡ c.args.pass.now.badge.table_id = search rules in
    let after = ap (λ m. m.0) c.load-word.ensures.2.1 ∙ same in
    record { rests = is_pass _ _ _ c.into_badge.ensures.2 (subst (λ (t : TableId). Fits c.load-word.new.seat.me.0 t.words) (sym here) (subst (λ k. Fits k c.args.pass.now.badge.table_id.words) (sym after) c.args.pass.now.rests.1)) }
