use Rattle.std.proofs.Common.{rules, ap, sym, ◌∙◌, arith}
use Rattle.heap_core.specs.Passes.{holder_of}
use Rattle.heap_core.proofs.Starting.{sees_table}
use Rattle.heap_core.proofs.pass.Heap.look_table.Goals as goal

pub load-requires : goal.load-requires
load-requires g c =
    let same = sym (ap holder_of c.into_seat-seat.ensures.2) ∙ ap (λ b. holder_of b.views) c.replace-badge.ensures.value in
    let some_words = c.args.self.now.sizes in
    (search rules, omega (arith, some_words), sees_table _ _ _ _ (search rules) (ap (λ k. k.live) same ∙ c.args.pass.now.rests.1.live))
