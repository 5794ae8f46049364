use Rattle.std.proofs.Common.{◌≡◌, ℕ, refl, sym, ap, subst, ◌∙◌}
use Rattle.rb_model.specs.declared.value.Id.{Id}
use Rattle.rb_model.specs.Started.{thread_id}
use Rattle.rb_thread.specs.Kins.{childless, AreSettled, IsPlaceOf}
use Rattle.rb_thread.proofs.Lines.{place_one, place_none, settled_one, get_set}
use Rattle.rb_thread.proofs.threaded.Threaded.settle_id.Goals as goal

pub returns-in-Some-clause-settled : goal.returns-in-Some-clause-settled
returns-in-Some-clause-settled g c =
    let l = c.requires.live in
    let m = c.settle.ensures.kids in
    let v = g.K.Seat.view c.args.self.now.seat in
    let w = g.K.Seat.view c.settle.new.self.seat in
    let ks = c.args.self.now.kids.0 in
    let t : c.args.self.now.number ≡ v.thread = l.numbered ∙ sym l.sound.thread_is in
    let same = place_one v.thread ks c.in-Some.place m.0 c.args.id l.sound.placed m.1 (c.in-Some.ensures.1 ∙ ap (λ n. thread_id n c.in-Some.place) t) in
    let new = c.settle.new.self.kids.0 in
    let there = subst (λ xs. Rattle.std.proofs.Common.slice_get xs c.in-Some.place ≡ Rattle.std.proofs.Common.Some (childless m.0)) (sym m.2) (get_set ks c.in-Some.place m.0 (childless m.0) m.1) in
    subst (λ (id : Id). AreSettled id new) same (settled_one w.thread new c.in-Some.place (childless m.0) c.settle.ensures.live.sound.placed there refl)

pub returns-in_default-clause-settled : goal.returns-in_default-clause-settled
returns-in_default-clause-settled g c =
    let l = c.requires.live in
    let v = g.K.Seat.view c.args.self.now.seat in
    let t = l.numbered ∙ sym l.sound.thread_is in
    λ i x e same. absurd (place_none v.thread c.args.self.now.kids.0 c.args.id c.place_of.result l.sound.placed (subst (λ n. IsPlaceOf n c.args.id (Rattle.std.proofs.Common.length c.args.self.now.kids.0) c.place_of.result) t c.place_of.ensures) c.in_default.not-Some i x e same)
