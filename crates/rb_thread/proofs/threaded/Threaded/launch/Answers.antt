use Rattle.std.proofs.Common.{rules, ◌≡◌, ◌∙◌, map, length, refl, sym, ap, subst}
use Rattle.std.specs.Option.{IfSome, IsSome}
use Rattle.std.specs.Prelude.{Vec}
use Rattle.std.specs.declared.alloc.Global.{Global}
use Rattle.rb_model.specs.declared.call.Call.TheVariants as held
use Rattle.rb_model.specs.declared.value.Value.{Value}
use Rattle.rb_model.specs.Log.{Start}
use Rattle.rb_model.specs.Moving.{items_of, ref_of, refs_in_all}
use Rattle.publish_barrier.specs.Gathers.{Gathers}
use Rattle.rb_model.specs.Values.{plain}
use Rattle.rb_shared.specs.Asking.{Knows}
use Rattle.rb_shared.specs.Lists.{Each, Has}
use Rattle.rb_shared.specs.View.{newborn, polled_view, rested_view, View}
use Rattle.publish_barrier.proofs.Leaving.{leaves_private}
use Rattle.publish_barrier.proofs.Noting.{all_same_there}
use Rattle.rb_thread.specs.Family.{Body, job_of}
use Rattle.rb_thread.specs.Seats as seats
use Rattle.rb_thread.proofs.Lines.{is_none_by}
use Rattle.rb_thread.proofs.Entries.{each_of}
use Rattle.rb_thread.proofs.Asking.{quiet_starting}
use Rattle.rb_thread.proofs.Handed.{alive_handed, away_handed, keeps_handed, knows_behind, knows_handed, may_start, mine_as, served_handed}
use Rattle.rb_thread.proofs.Serving.{served_until}
use Rattle.rb_thread.proofs.Starting.{Began, began, next_id_is, alive_child, alive_begun, is_unsplit, job_told}
use Rattle.rb_thread.proofs.threaded.Threaded.launch.Goals as goal

pub hand_over-answer-requires-clause-may : goal.hand_over-answer-requires-clause-may
hand_over-answer-requires-clause-may g c =
    let l = c.requires.live in
    may_start (g.K.Seat.view c.args.self.now.seat) c.args.self.now.things c.args.self.now.known.refs c.in-Ok.moved (held.Start c.args.id c.args.body c.args.values) c.args.id c.args.body (map plain c.args.values.items) refl refl
    (c.requires.next ∙ next_id_is c.args.self.now.number (length c.args.self.now.kids.0) l.sound l.numbered refl) (mine_as l) l.known l.absent
    (subst (λ us. Gathers c.args.self.now.things c.args.self.now.known.refs (map plain us) (refs_in_all us) c.in-Ok.moved) c.as_slice.ensures.value c.in-Ok.ensures)

pub hand_over-answer-requires-clause-private : goal.hand_over-answer-requires-clause-private
hand_over-answer-requires-clause-private g c = leaves_private c.in-Ok.ensures.leaves

pub split-next-requires : goal.split-next-requires
split-next-requires g c =
    let l = c.requires.live in
    let view = g.K.Seat.view in
    let v = view c.args.self.now.seat in
    let w = view c.hand_over-answer.new.seat in
    let own = c.args.self.now.things in
    let refs = c.args.self.now.known.refs in
    let a = c.hand_over-answer.result in
    let ms = c.in-Ok.moved in
    let gathers = subst (λ us. Gathers own refs (map plain us) (refs_in_all us) ms) c.as_slice.ensures.value c.in-Ok.ensures in
    let call = held.Start c.args.id c.args.body c.args.values in
    let vs = map plain c.args.values.items in
    let hands = subst (λ rs. seats.Hands v c.args.step call ms own rs a w c.hand_over-answer.new.things c.hand_over-answer.new.known.refs) c.reserve.ensures.refs c.hand_over-answer.ensures.hands in
    let b = began v w c.args.step call c.args.id c.args.body vs c.in-Some.number c.in-Some.thing ms a hands.0 (sym c.started_in.ensures ∙ c.in-Some.is) refl hands.1 in
    let u = is_unsplit v w c.args.step c.args.id c.args.body vs (items_of ms) (map ref_of hands.0) c.in-Some.number c.in-Some.thing b in
    record { started = subst (λ o. IsSome o) (sym u) refl }

pub spawn-child-requires : goal.spawn-child-requires
spawn-child-requires g c =
    let l = c.requires.live in
    let view = g.K.Seat.view in
    let v = view c.args.self.now.seat in
    let w = view c.hand_over-answer.new.seat in
    let own = c.args.self.now.things in
    let refs = c.args.self.now.known.refs in
    let a = c.hand_over-answer.result in
    let ms = c.in-Ok.moved in
    let gathers = subst (λ us. Gathers own refs (map plain us) (refs_in_all us) ms) c.as_slice.ensures.value c.in-Ok.ensures in
    let call = held.Start c.args.id c.args.body c.args.values in
    let vs = map plain c.args.values.items in
    let hands = subst (λ rs. seats.Hands v c.args.step call ms own rs a w c.hand_over-answer.new.things c.hand_over-answer.new.known.refs) c.reserve.ensures.refs c.hand_over-answer.ensures.hands in
    let b = began v w c.args.step call c.args.id c.args.body vs c.in-Some.number c.in-Some.thing ms a hands.0 (sym c.started_in.ensures ∙ c.in-Some.is) refl hands.1 in
    let job = c.in-Some-job_in.job in
    let is = job_told c.hand_over-answer.new.known.refs call c.in-Some.number c.job_in.result job c.job_in.ensures c.in-Some-job_in.is in
    let u = is_unsplit v w c.args.step c.args.id c.args.body vs (items_of ms) (map ref_of hands.0) c.in-Some.number c.in-Some.thing b in
    let made = subst (λ o. IfSome o (λ n. g.K.Seat.seen c.split-next.result ≡ newborn w n)) u c.split-next.ensures.made in
    let began_body = subst (λ o. Began v w c.args.step c.args.id o vs (items_of ms) (map ref_of hands.0) c.in-Some.number c.in-Some.thing) (sym is.1) b in
    let began_so =
    subst (λ (o : Vec Value Global). Began v w c.args.step c.args.id job.body (map plain o.items) (items_of ms) (map ref_of hands.0) c.in-Some.number c.in-Some.thing) (sym is.2) began_body in
    let knows = knows_handed v w c.args.step call ms a hands.0 own refs c.hand_over-answer.new.things c.hand_over-answer.new.known.refs refl l.known hands.1 hands.2 in
    let there = subst (Each (Has c.hand_over-answer.new.known.refs)) (sym is.3) (all_same_there c.hand_over-answer.new.known.refs (refs_in_all c.args.values.items)) in
    let known = each_of (Has c.hand_over-answer.new.known.refs) (Knows w) job.refs.items knows there in
    let may = alive_child c.split-next.result job l began_so is.0 (c.split-next.ensures.made_of ∙ (c.hand_over-answer.ensures.home ∙ l.home_is)) made known in
    let pre = may.0 in
    search rules

pub returns-in_default-started_in-clause-live : goal.returns-in_default-started_in-clause-live
returns-in_default-started_in-clause-live g c =
    let l = c.requires.live in
    let view = g.K.Seat.view in
    let v = view c.args.self.now.seat in
    let w = view c.hand_over-answer.new.seat in
    let own = c.args.self.now.things in
    let refs = c.args.self.now.known.refs in
    let a = c.hand_over-answer.result in
    let ms = c.in-Ok.moved in
    let gathers = subst (λ us. Gathers own refs (map plain us) (refs_in_all us) ms) c.as_slice.ensures.value c.in-Ok.ensures in
    let call = held.Start c.args.id c.args.body c.args.values in
    let vs = map plain c.args.values.items in
    let hands = subst (λ rs. seats.Hands v c.args.step call ms own rs a w c.hand_over-answer.new.things c.hand_over-answer.new.known.refs) c.reserve.ensures.refs c.hand_over-answer.ensures.hands in
    alive_handed c.args.step call ms vs a c.hand_over-answer.new.known.refs l c.hand_over-answer.ensures.home refl
    (quiet_starting call c.args.id c.args.body vs a refl (sym c.started_in.ensures ∙ is_none_by c.started_in.result (λ y q. c.in_default-started_in.not-Some y q))) gathers.leaves hands c.take_in.ensures.noted

pub returns-in_default-started_in-clause-served : goal.returns-in_default-started_in-clause-served
returns-in_default-started_in-clause-served g c =
    let l = c.requires.live in
    let view = g.K.Seat.view in
    let v = view c.args.self.now.seat in
    let w = view c.hand_over-answer.new.seat in
    let own = c.args.self.now.things in
    let refs = c.args.self.now.known.refs in
    let a = c.hand_over-answer.result in
    let ms = c.in-Ok.moved in
    let gathers = subst (λ us. Gathers own refs (map plain us) (refs_in_all us) ms) c.as_slice.ensures.value c.in-Ok.ensures in
    let call = held.Start c.args.id c.args.body c.args.values in
    let vs = map plain c.args.values.items in
    let hands = subst (λ rs. seats.Hands v c.args.step call ms own rs a w c.hand_over-answer.new.things c.hand_over-answer.new.known.refs) c.reserve.ensures.refs c.hand_over-answer.ensures.hands in
    served_handed v w c.args.step call ms a own refs c.hand_over-answer.new.things c.hand_over-answer.new.known.refs c.take_in.result _ refl c.take_in.ensures.served refl gathers.leaves hands

pub returns-clause-live : goal.returns-clause-live
returns-clause-live g c =
    let l = c.requires.live in
    let view = g.K.Seat.view in
    let v = view c.args.self.now.seat in
    let w = view c.hand_over-answer.new.seat in
    let own = c.args.self.now.things in
    let refs = c.args.self.now.known.refs in
    let a = c.hand_over-answer.result in
    let ms = c.in-Ok.moved in
    let gathers = subst (λ us. Gathers own refs (map plain us) (refs_in_all us) ms) c.as_slice.ensures.value c.in-Ok.ensures in
    let call = held.Start c.args.id c.args.body c.args.values in
    let vs = map plain c.args.values.items in
    let hands = subst (λ rs. seats.Hands v c.args.step call ms own rs a w c.hand_over-answer.new.things c.hand_over-answer.new.known.refs) c.reserve.ensures.refs c.hand_over-answer.ensures.hands in
    let b = began v w c.args.step call c.args.id c.args.body vs c.in-Some.number c.in-Some.thing ms a hands.0 (sym c.started_in.ensures ∙ c.in-Some.is) refl hands.1 in
    let job = c.in-Some-job_in.job in
    let is = job_told c.hand_over-answer.new.known.refs call c.in-Some.number c.job_in.result job c.job_in.ensures c.in-Some-job_in.is in
    let u = is_unsplit v w c.args.step c.args.id c.args.body vs (items_of ms) (map ref_of hands.0) c.in-Some.number c.in-Some.thing b in
    let made = subst (λ o. IfSome o (λ n. g.K.Seat.seen c.split-next.result ≡ newborn w n)) u c.split-next.ensures.made in
    let began_body = subst (λ o. Began v w c.args.step c.args.id o vs (items_of ms) (map ref_of hands.0) c.in-Some.number c.in-Some.thing) (sym is.1) b in
    let began_so =
    subst (λ (o : Vec Value Global). Began v w c.args.step c.args.id job.body (map plain o.items) (items_of ms) (map ref_of hands.0) c.in-Some.number c.in-Some.thing) (sym is.2) began_body in
    let knows = knows_handed v w c.args.step call ms a hands.0 own refs c.hand_over-answer.new.things c.hand_over-answer.new.known.refs refl l.known hands.1 hands.2 in
    let there = subst (Each (Has c.hand_over-answer.new.known.refs)) (sym is.3) (all_same_there c.hand_over-answer.new.known.refs (refs_in_all c.args.values.items)) in
    let known = each_of (Has c.hand_over-answer.new.known.refs) (Knows w) job.refs.items knows there in
    let may = alive_child c.split-next.result job l began_so is.0 (c.split-next.ensures.made_of ∙ (c.hand_over-answer.ensures.home ∙ l.home_is)) made known in
    alive_begun c.spawn-child.result (job_of job) l (c.poll.ensures.home ∙ (c.rest.ensures.home ∙ (c.split-next.ensures.home ∙ c.hand_over-answer.ensures.home))) b
    (c.requires.next ∙ next_id_is c.args.self.now.number (length c.args.self.now.kids.0) l.sound l.numbered refl)
    (c.poll.ensures.view ∙ ap polled_view (c.rest.ensures.view ∙ ap rested_view c.split-next.ensures.maker)) c.push.ensures
    (λ i. Body (is.0 i) (is.1 i) (map plain (is.2 i).items)) (may.1 c.spawn-child.result c.spawn-child.ensures)
    (keeps_handed own ms vs gathers.leaves a hands.0 refs c.hand_over-answer.new.things c.hand_over-answer.new.known.refs hands.2).0
    (away_handed own ms vs gathers.leaves v w c.args.step call a hands.0 refs c.hand_over-answer.new.things c.hand_over-answer.new.known.refs l.absent hands.1 hands.2)
    (knows_behind v w c.args.step call ms a own refs c.hand_over-answer.new.things c.hand_over-answer.new.known.refs c.take_in-2.new.known.refs refl l.known hands c.take_in-2.ensures.noted)

pub returns-clause-served : goal.returns-clause-served
returns-clause-served g c =
    let l = c.requires.live in
    let view = g.K.Seat.view in
    let v = view c.args.self.now.seat in
    let w = view c.hand_over-answer.new.seat in
    let own = c.args.self.now.things in
    let refs = c.args.self.now.known.refs in
    let a = c.hand_over-answer.result in
    let ms = c.in-Ok.moved in
    let gathers = subst (λ us. Gathers own refs (map plain us) (refs_in_all us) ms) c.as_slice.ensures.value c.in-Ok.ensures in
    let call = held.Start c.args.id c.args.body c.args.values in
    let vs = map plain c.args.values.items in
    let hands = subst (λ rs. seats.Hands v c.args.step call ms own rs a w c.hand_over-answer.new.things c.hand_over-answer.new.known.refs) c.reserve.ensures.refs c.hand_over-answer.ensures.hands in
    served_until c.take_in-2.result c.args.step (Start c.args.id c.args.body vs) v.log w.log _ own c.hand_over-answer.new.things
    (ap (λ (o : View). o.log) (c.poll.ensures.view ∙ ap polled_view (c.rest.ensures.view ∙ ap rested_view c.split-next.ensures.maker)))
    (served_handed v w c.args.step call ms a own refs c.hand_over-answer.new.things c.hand_over-answer.new.known.refs c.take_in-2.result _ refl c.take_in-2.ensures.served refl gathers.leaves hands)
