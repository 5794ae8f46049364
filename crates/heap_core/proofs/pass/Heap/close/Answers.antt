use Rattle.std.specs.Slots.{slots_counts, slots_filled, slots_len}
use Rattle.std.proofs.Common.{◌≡◌, ◌<◌, rules, arith, Bool, false, List, [], ◌∷◌, set, get_or, Some, None, refl, ap, sym, subst, ◌∙◌}
use Rattle.rb_shared.specs.View.{known_logs}
use Rattle.shared_run.specs.Closing.{ShowsAll, SinkClosed}
use Rattle.heap_core.specs.Closing.{Overflows, history_in}
use Rattle.heap_core.specs.Handing.{Handed}
use Rattle.heap_core.specs.Passes.{holder_of}
use Rattle.heap_core.specs.View.{Holder, front_holder, maker, showing}
use Rattle.heap_core.proofs.Closes.{closes_with, one_slot}
use Rattle.heap_core.proofs.Passing.{front_splits}
use Rattle.heap_core.proofs.pass.Heap.close.Given.{Over}
use Rattle.heap_core.proofs.pass.Heap.close.Goals as goal

none_some : (h : Handed) → None ≡ Some h → ⊥
none_some h e = cc

some_is : (g h : Handed) → Some g ≡ Some h → g ≡ h
some_is g h e = cc

pub split_seat-requires : goal.split_seat-requires
split_seat-requires g c =
    let some_words = c.args.self.sizes in
    let live = ap (λ (k : Holder). k.live) (sym (ap holder_of c.into_seat-seat.ensures.2)) ∙ c.args.pass.rests.1.live in
    (search rules, omega (arith, some_words), front_splits _ _ _ (ap (λ m. m.0.live) c.show.ensures.shows.1 ∙ live))

pub take-requires : goal.take-requires
take-requires g c =
    let is = ap (λ m. m.0) c.split_seat.ensures.2 ∙ (ap (λ m. maker m.0) c.show.ensures.shows.1 ∙ ap (λ (k : Holder). maker (showing k c.show.ensures.shows.0)) (sym (ap holder_of c.into_seat-seat.ensures.2))) in
    let one = one_slot _ _ _ _ _ (holder_of c.args.pass.badge.views) c.show.ensures.shows.0 is c.close_with-closed.ensures.values.2 c.args.pass.rests.1.live c.requires.main c.requires.ended c.requires.gathered in
    let counts = (slots_counts c.close_with-closed.result.slots).0 in
    let some : 0 < slots_len c.close_with-closed.result.slots = omega (arith, one, counts) in
    (some, c.close_with-closed.ensures.values.1 0 (omega arith) some)

pub unreachable-requires : goal.unreachable-requires
unreachable-requires g c =
    let is = ap (λ m. m.0) c.split_seat.ensures.2 ∙ (ap (λ m. maker m.0) c.show.ensures.shows.1 ∙ ap (λ (k : Holder). maker (showing k c.show.ensures.shows.0)) (sym (ap holder_of c.into_seat-seat.ensures.2))) in
    let z = closes_with _ _ _ _ _ (holder_of c.args.pass.badge.views) c.take.result c.show.ensures.shows.0 _ is c.close_with-closed.ensures.values.2 c.take.ensures.value c.args.pass.rests.1.live c.requires.main c.requires.ended c.requires.gathered
    (c.args.pass.rests.1.size ∙ ap (λ t. t.words) c.requires.of) in
    none_some z.0 (sym c.in_default.is ∙ z.1)

-- a place that was emptied is empty
emptied : (l : List Bool) → get_or (set l 0 false) 0 false ≡ false
emptied [] = refl
emptied (b ∷ bs) = refl

pub free-requires : goal.free-requires
free-requires g c = λ k lt.
    let is = ap (λ m. m.0) c.split_seat.ensures.2 ∙ (ap (λ m. maker m.0) c.show.ensures.shows.1 ∙ ap (λ (k : Holder). maker (showing k c.show.ensures.shows.0)) (sym (ap holder_of c.into_seat-seat.ensures.2))) in
    let one = one_slot _ _ _ _ _ (holder_of c.args.pass.badge.views) c.show.ensures.shows.0 is c.close_with-closed.ensures.values.2 c.args.pass.rests.1.live c.requires.main c.requires.ended c.requires.gathered in
    let counts = (slots_counts c.close_with-closed.result.slots).0 in
    let left = c.take.ensures.others.2 in
    let first : 0 ≡ k = omega (arith, one, counts, left, lt) in
    ap (λ (l : List Bool). get_or l k false) c.take.ensures.others.1 ∙ subst (λ x. get_or (set (slots_filled c.close_with-closed.result.slots) 0 false) x false ≡ false) first (emptied (slots_filled c.close_with-closed.result.slots))

-- the history that the front shows
history_is : (g : Over) (c : goal.After-into_out g) → history_in c.into_badge-front.result.views ≡ c.show.ensures.shows.0
history_is g c = ap history_in c.into_badge-front.ensures.2 ∙ (ap (λ m. history_in (m.0 ∷ [])) c.split_seat.ensures.4 ∙ ap (λ m. history_in (front_holder m.0 ∷ [])) c.show.ensures.shows.1)

closed : (g : Over) (c : goal.After-into_out g) → SinkClosed (Overflows c.args.self.table.shared.table_id.words) c.args.self.table.shared.key.begun c.in-Some.turn.sink (history_in c.into_badge-front.result.views)
closed g c =
    let is = ap (λ m. m.0) c.split_seat.ensures.2 ∙ (ap (λ m. maker m.0) c.show.ensures.shows.1 ∙ ap (λ (k : Holder). maker (showing k c.show.ensures.shows.0)) (sym (ap holder_of c.into_seat-seat.ensures.2))) in
    let z = closes_with _ _ _ _ _ (holder_of c.args.pass.badge.views) c.take.result c.show.ensures.shows.0 _ is c.close_with-closed.ensures.values.2 c.take.ensures.value c.args.pass.rests.1.live c.requires.main c.requires.ended c.requires.gathered
    (c.args.pass.rests.1.size ∙ ap (λ t. t.words) c.requires.of) in
    subst (SinkClosed (Overflows c.args.self.table.shared.table_id.words) c.args.self.table.shared.key.begun c.in-Some.turn.sink) (sym (history_is g c))
    (subst (λ (h : Handed). SinkClosed (Overflows c.args.self.table.shared.table_id.words) c.args.self.table.shared.key.begun h.sink c.show.ensures.shows.0) (some_is z.0 c.in-Some.turn (sym z.1 ∙ c.in-Some.is)) z.2)

pub returns-clause-shows : goal.returns-clause-shows
returns-clause-shows g c =
    subst (λ (k : Holder). ShowsAll k.view.slots (known_logs k.view) (history_in c.into_badge-front.result.views)) (sym (ap holder_of c.into_seat-seat.ensures.2))
    (subst (ShowsAll c.into_seat-seat.result.me.0.view.slots (known_logs c.into_seat-seat.result.me.0.view)) (sym (history_is g c)) c.show.ensures.shows.2)

pub returns-clause-written : goal.returns-clause-written
returns-clause-written g c = rw c.into_out.ensures.told (closed g c).0

pub returns-clause-rises : goal.returns-clause-rises
returns-clause-rises g c = rw c.into_out.ensures.faults (closed g c).1

pub returns-clause-cause : goal.returns-clause-cause
returns-clause-cause g c = rw c.into_out.ensures.faults (closed g c).2

pub returns-clause-full : goal.returns-clause-full
returns-clause-full g c = (closed g c).3
