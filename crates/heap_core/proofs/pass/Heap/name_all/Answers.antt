use Rattle.std.proofs.Common.{rules, ap, sym, ◌∙◌, arith}
use Rattle.heap_core.specs.Passes.{holder_of}
use Rattle.heap_core.specs.View.{Holder}
use Rattle.heap_core.proofs.Knowing.{names_all}
use Rattle.heap_core.proofs.pass.Heap.name_all.Goals as goal

pub load-requires : goal.load-requires
load-requires g c =
    let same = sym (ap holder_of c.into_seat-seat.ensures.2) ∙ ap (λ b. holder_of b.views) c.replace-badge.ensures.value in
    let some_words = c.args.self.now.sizes in
    (search rules, omega (arith, some_words), names_all _ _ _ _ (ap (λ (k : Holder). k.live) same ∙ c.args.pass.now.rests.1.live))
