use Rattle.std.proofs.Common.{rules, ap, sym, ◌∙◌}
use Rattle.turn_store.specs.Passes.{holder_of}
use Rattle.turn_store.proofs.Passing.{splits}
use Rattle.turn_store.proofs.store.TurnStore.split_off.Goals as goal

pub split_seat-child-requires : goal.split_seat-child-requires
split_seat-child-requires g c =
    let same = sym (ap holder_of c.into_seat-seat.ensures.2) ∙ ap (λ b. holder_of b.views) c.replace-badge.ensures.value in
    (search rules, search rules, splits _ _ _ _ _ _ c.in-Some.thread (ap (λ k. k.live) same ∙ c.args.pass.now.rests.1.0) (ap (λ k. k.view.unsplit) same ∙ (c.args.pass.now.rests.1.3 ∙ c.in-Some.is)))
