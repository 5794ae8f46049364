use Rattle.std.proofs.Common.{ℕ, rules, ◌+◌, ◌≤◌, ap, sym, subst, ◌∙◌, arith}
use Rattle.atomic_table.specs.Seated.{TableId}
use Rattle.heap_core.specs.Passes.{holder_of}
use Rattle.heap_core.proofs.Takes.{looks, takes}
use Rattle.heap_core.proofs.pass.Heap.try_take.Goals as goal

pub load-used-requires : goal.load-used-requires
load-used-requires g c =
    let same = sym (ap holder_of c.into_seat-seat.ensures.2) ∙ ap (λ b. holder_of b.views) c.replace-badge.ensures.value in
    let fits = c.args.pass.now.rests.1 in
    let some_words = c.args.self.now.sizes in
    (search rules, omega (arith, some_words), looks _ _ _ _ _ _ (ap (λ k. k.live) same ∙ fits.live) (λ h. ap (λ k. k.view.ended) same ∙ c.requires.going h))

pub compare_exchange-found-requires : goal.compare_exchange-found-requires
compare_exchange-found-requires g c =
    let same = sym (ap holder_of c.into_seat-seat.ensures.2) ∙ ap (λ b. holder_of b.views) c.replace-badge.ensures.value in
    let fits = c.args.pass.now.rests.1 in
    let e = c.load-used.ensures in
    let some_words = c.args.self.now.sizes in
    let count = c.word_count-words.ensures in
    let size = ap (λ k. k.size) same ∙ (fits.size ∙ ap (λ (t : TableId). t.words) c.requires.of) in
    let top = e.2.0.2 in
    let room = c.if-wanted-words.false in
    let fit : c.load-used.result + c.args.wanted ≤ c.into_seat-seat.result.me.0.size = omega (arith, size, count, top, room) in
    let stays = e.2.1 (subst (λ (n : ℕ). c.load-used.result + n ≤ c.into_seat-seat.result.me.0.size) (sym c.requires.named) fit) in
    let after = ap (λ m. m.0) stays ∙ same in (
      search rules,
      omega (arith, some_words),
      takes _ _ _ _ _ _ (ap (λ k. k.live) after ∙ fits.live) e.2.0.0 (omega arith)
          (let size_after = ap (λ m. m.0.size) stays in omega (arith, fit, size_after)),
    )
