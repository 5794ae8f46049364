use Rattle.std.proofs.Common.{rules, ap, sym, ◌∙◌}
use Rattle.turn_store.specs.Passes.{holder_of}
use Rattle.turn_store.proofs.Passing.{joins}
use Rattle.turn_store.proofs.store.TurnStore.take_in.Goals as goal

pub join_seat-requires : goal.join_seat-requires
join_seat-requires g c =
    let same = sym (ap holder_of c.into_seat-seat.ensures.2) ∙ ap (λ b. holder_of b.views) c.replace-badge.ensures.value in
    let other = sym (ap holder_of c.into_seat.ensures.2) in (
      search rules,
      search rules,
      search rules,
      search rules,
      joins _ _ _ _ _ _ _ _ (ap (λ k. k.live) same ∙ c.args.pass.now.rests.1.0) (ap (λ k. k.live) other ∙ c.args.other.rests.1.0) (ap (λ k. k.holding) other ∙ c.args.other.rests.1.1),
    )
