use Rattle.std.proofs.Common.{None, refl, inl, inr, ap, ◌∙◌}
use Rattle.rb_model.specs.Doing.{said}
use Rattle.rb_shared.specs.Answers.{entry_of}
use Rattle.rb_shared.specs.View.{with_entry}
use Rattle.turn_store.proofs.Asks.{laid_again}
use Rattle.turn_store.proofs.Tells.{in_hand, may_try, may_make, may_give, may_refuse, may_give_up, turn_as, view_is}
use Rattle.turn_store.specs.Calls.{refs_of}
use Rattle.turn_store.proofs.store.TurnStore.call_at.Goals as goal

pub enter-requires-clause-held : goal.enter-requires-clause-held
enter-requires-clause-held g c =
    let turn = turn_as g.K.Sink.told g.K.Sink.faults _ c.args.seat.me _ _ c.turns.invariant.1 c.take_turn.ensures.took in
    in_hand _ _ c.args.seat.me.0 _ _ _ turn (λ y known. may_try _ _ _ c.args.thread _ _ known c.requires.may c.requires.rests.2)

pub leave-requires-clause-made : goal.leave-requires-clause-made
leave-requires-clause-made g c =
    let turn = turn_as g.K.Sink.told g.K.Sink.faults _ c.args.seat.me _ _ c.turns.invariant.1 c.take_turn.ensures.took in
    may_make g.K.Sink.told g.K.Sink.faults _ _ c.args.seat.me.0 _ _ c.args.thread c.args.step _ _ _ turn c.enter.ensures.same.1 c.args.self.now.threads c.requires.may c.requires.rests.2 c.requires.rests.1 c.in-Done.ensures.moves

pub give_up-requires-clause-may : goal.give_up-requires-clause-may
give_up-requires-clause-may g c =
    let turn = turn_as g.K.Sink.told g.K.Sink.faults _ c.args.seat.me _ _ c.turns.invariant.1 c.take_turn.ensures.took in
    may_give_up g.K.Sink.told g.K.Sink.faults _ c.args.seat.me.0 _ _ _ turn c.enter.ensures.same.1 (c.enter.new.seat.me.0.view.unsplit, inl refl, refl) c.in-Waits.ensures.moves

pub refuse-requires-clause-may : goal.refuse-requires-clause-may
refuse-requires-clause-may g c =
    let turn = turn_as g.K.Sink.told g.K.Sink.faults _ c.args.seat.me _ _ c.turns.invariant.1 c.take_turn.ensures.took in
    may_refuse g.K.Sink.told g.K.Sink.faults _ c.args.self.now.slots c.args.seat.me.0 _ _ c.args.thread c.args.call.now c.args.moved.now turn c.enter.ensures.same.1 c.in-SinkFailed.ensures.moves

pub forget-requires-clause-may : goal.forget-requires-clause-may
forget-requires-clause-may g c =
    let turn = turn_as g.K.Sink.told g.K.Sink.faults _ c.args.seat.me _ _ c.turns.invariant.1 c.take_turn.ensures.took in
    let m = c.in-Memory.ensures.moves in
    may_give_up g.K.Sink.told g.K.Sink.faults _ c.args.seat.me.0 _ _ _ turn c.enter.ensures.same.1 (None, inr refl, refl) (m.0, m.1, (m.2.0, m.2.1, m.2.2.1))

pub returns-in-Done-clause-answers : goal.returns-in-Done-clause-answers
returns-in-Done-clause-answers g c =
    let turn = turn_as g.K.Sink.told g.K.Sink.faults _ c.args.seat.me _ _ c.turns.invariant.1 c.take_turn.ensures.took in
    let view = view_is g.K.Sink.told g.K.Sink.faults _ c.args.seat.me.0 c.take_turn.new.seat.me c.enter.new.seat.me turn c.enter.ensures.same.1 in
    let e = entry_of c.args.step c.args.call.now c.args.moved.now (said c.in-Done.reply) in (
      ap (λ m. m.0.view) c.leave.ensures.left ∙ ap (λ v. with_entry v e (refs_of c.in-Done.reply c.args.moved.now)) view,
      laid_again c.args.moved.now,
      may_give g.K.Sink.told g.K.Sink.faults _ _ c.args.seat.me.0 c.take_turn.new.seat.me c.enter.new.seat.me c.args.thread _ _ _ turn c.args.self.now.threads c.requires.may c.requires.rests.2 c.requires.rests.1 c.in-Done.ensures.moves,
    )
