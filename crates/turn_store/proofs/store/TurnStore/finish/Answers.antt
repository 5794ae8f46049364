use Rattle.std.proofs.Common.{rules, ◌≡◌, ◌≤◌, [], ◌∷◌, ap, sym, ◌∙◌, subst}
use Rattle.rb_shared.specs.Closing.{AreFull, Caused, Written}
use Rattle.rb_shared.specs.History.{History}
use Rattle.rb_shared.specs.Threads.{AllGathered}
use Rattle.rb_shared.specs.View.{known_logs}
use Rattle.turn_store.specs.Turns.{Never}
use Rattle.shared_run.specs.Closing.{ShowsAll, SinkClosed}
use Rattle.turn_store.specs.Holding.{Holder, front_holder}
use Rattle.turn_store.specs.Passes.{history_in, holder_of}
use Rattle.turn_store.specs.Slot.{begun_of, sunk_of, things_of}
use Rattle.turn_store.proofs.Closes.{front_splits, closes_with}
use Rattle.turn_store.proofs.store.TurnStore.finish.Given.{Over}
use Rattle.turn_store.proofs.store.TurnStore.finish.Goals as goal

pub show-requires-clause-gathered : goal.show-requires-clause-gathered
show-requires-clause-gathered g c = subst (λ (k : Holder). AllGathered (known_logs k.view)) (ap holder_of c.into_seat-seat.ensures.2) c.requires.gathered

pub split_seat-requires : goal.split_seat-requires
split_seat-requires g c = (search rules, search rules, front_splits _ _ _ _ _ _)

-- the holder of the pass
pass_is : (g : Over) (c : goal.After-into_out g) → holder_of c.args.pass.badge.views ≡ c.into_seat-seat.result.me.0
pass_is g c = ap holder_of c.into_seat-seat.ensures.2

-- the history that the front shows
history_is : (g : Over) (c : goal.After-into_out g) → history_in c.into_badge-front.result.views ≡ c.show.ensures.shows.0
history_is g c = ap history_in c.into_badge-front.ensures.2 ∙ (ap (λ m. history_in (m.0 ∷ [])) c.split_seat.ensures.4 ∙ ap (λ m. history_in (front_holder m.0 ∷ [])) c.show.ensures.shows.1)

sink_closed : (g : Over) (c : goal.After-into_out g)
    → SinkClosed Never (begun_of g.K.Sink.told g.K.Sink.faults c.args.self.table.shared.key.out.value) (sunk_of g.K.Sink.told g.K.Sink.faults c.take-slot.result) c.show.ensures.shows.0
sink_closed g c =
    let same = pass_is g c in
    closes_with things_of (sunk_of g.K.Sink.told g.K.Sink.faults) c.args.self.table.shared.key.slots (begun_of g.K.Sink.told g.K.Sink.faults c.args.self.table.shared.key.out.value) _ _ _
    c.split_seat.new.seat.me.0 c.into_seat-seat.result.me.0 c.take-slot.result c.show.ensures.shows.0
    (ap (λ m. m.0) c.split_seat.ensures.2 ∙ ap (λ m. m.0) c.show.ensures.shows.1)
    c.close_with-closed.ensures.values.2 c.take-slot.ensures.value
    (ap (λ (k : Holder). k.live) (sym same) ∙ c.args.pass.rests.1.0) (ap (λ (k : Holder). k.view.thread) (sym same) ∙ c.requires.main) (ap (λ (k : Holder). k.view.ended) (sym same) ∙ c.requires.ended)
    (subst (λ (k : Holder). AllGathered (known_logs k.view)) same c.requires.gathered)

pub returns-clause-shows : goal.returns-clause-shows
returns-clause-shows g c =
    subst (λ (h : History). ShowsAll c.args.self.table.shared.key.slots (known_logs (holder_of c.args.pass.badge.views).view) h) (sym (history_is g c))
    (subst (λ (k : Holder). ShowsAll c.args.self.table.shared.key.slots (known_logs k.view) c.show.ensures.shows.0) (sym (pass_is g c)) c.show.ensures.shows.2)

pub returns-clause-written : goal.returns-clause-written
returns-clause-written g c =
    subst (λ (k : g.row.K.Denot). Written (g.K.Sink.told c.args.self.table.shared.key.out.value) (g.K.Sink.told k) (history_in c.into_badge-front.result.views)) (sym c.into_out.ensures)
    (subst (Written (g.K.Sink.told c.args.self.table.shared.key.out.value) (g.K.Sink.told c.take-slot.result.out)) (sym (history_is g c)) (sink_closed g c).0)

pub returns-clause-rises : goal.returns-clause-rises
returns-clause-rises g c = subst (λ (k : g.row.K.Denot). g.K.Sink.faults c.args.self.table.shared.key.out.value ≤ g.K.Sink.faults k) (sym c.into_out.ensures) (sink_closed g c).1

pub returns-clause-cause : goal.returns-clause-cause
returns-clause-cause g c =
    subst (λ (k : g.row.K.Denot). Caused (g.K.Sink.faults c.args.self.table.shared.key.out.value) (g.K.Sink.faults k) (history_in c.into_badge-front.result.views)) (sym c.into_out.ensures)
    (subst (Caused (g.K.Sink.faults c.args.self.table.shared.key.out.value) (g.K.Sink.faults c.take-slot.result.out)) (sym (history_is g c)) (sink_closed g c).2)

pub returns-clause-full : goal.returns-clause-full
returns-clause-full g c = subst (AreFull Never) (sym (history_is g c)) (sink_closed g c).3
