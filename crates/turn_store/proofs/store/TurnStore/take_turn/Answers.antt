use Rattle.std.proofs.Common.{rules, subst, ap, ◌∙◌}
use Rattle.turn_store.specs.Slot.{sunk_of, things_of}
use Rattle.turn_store.specs.Turns.{TookTurn}
use Rattle.turn_store.proofs.Keeps.{tries_as}
use Rattle.turn_store.proofs.Tells.{took}
use Rattle.turn_store.proofs.store.TurnStore.take_turn.Goals as goal

pub compare_exchange-requires : goal.compare_exchange-requires
compare_exchange-requires g c =
    let same = c.turns.invariant.2 in
    (search rules, search rules, tries_as _ _ _ _ _ c.requires.counts _ _ _ (ap (λ m. m.0.live) same ∙ c.requires.rests.0.2) (ap (λ m. m.0.view.ended) same ∙ c.requires.rests.1))

pub returns-then-compare_exchange-eq0-clause-took : goal.returns-then-compare_exchange-eq0-clause-took
returns-then-compare_exchange-eq0-clause-took g c =
    let m0 = c.args.seat.now.me in
    subst (λ n. TookTurn things_of (sunk_of g.K.Sink.told g.K.Sink.faults) n m0.0 c.compare_exchange.new.seat.me) c.requires.counts
    (took things_of (sunk_of g.K.Sink.told g.K.Sink.faults) g.J.Counting.slots m0 c.turns.seat.me c.compare_exchange.new.seat.me _ c.turns.invariant.2 c.requires.rests.0.0 c.if-compare_exchange-eq0.true c.compare_exchange.ensures.2)
