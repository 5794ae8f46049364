use Rattle.std.proofs.Common.{rules, ap, sym, subst, ◌∙◌}
use Rattle.heap_core.specs.Passes.{holder_of}
use Rattle.heap_core.proofs.Passing.{splits_started}
use Rattle.heap_core.proofs.pass.Heap.split.Goals as goal

pub split_seat-child-requires : goal.split_seat-child-requires
split_seat-child-requires g c =
    let same = sym (ap holder_of c.into_seat-seat.ensures.2) ∙ ap (λ b. holder_of b.views) c.replace-badge.ensures.value in
    (search rules, search rules, splits_started _ _ _ (ap (λ k. k.live) same ∙ c.args.pass.now.rests.1.live) (subst Rattle.std.specs.Prelude.IsSome (sym (ap (λ k. k.view.unsplit) same)) c.requires.started))
