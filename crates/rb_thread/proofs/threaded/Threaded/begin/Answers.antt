use Rattle.std.proofs.Common.{arith, ◌≡◌, ◌∙◌, ◌+◌, ◌^◌, suc, map, length, refl, sym, ap}
use Rattle.rb_model.specs.declared.value.Id.{Id}
use Rattle.rb_model.specs.Log.{Start}
use Rattle.rb_model.specs.Started.{thread_id, next_thread}
use Rattle.rb_model.specs.Values.{plain}
use Rattle.rb_thread.proofs.Keeping.{alive_same}
use Rattle.rb_thread.proofs.Starting.{next_id_is}
use Rattle.rb_thread.proofs.Serving.{served_as_call}
use Rattle.rb_thread.proofs.threaded.Threaded.begin.Goals as goal

pub launch-requires-clause-live : goal.launch-requires-clause-live
launch-requires-clause-live g c = alive_same refl c.reserve.ensures.same c.requires.live

pub returns-clause-served : goal.returns-clause-served
returns-clause-served g c =
    let l = c.requires.live in
    let v = g.K.Seat.view c.args.self.now.seat in
    let own = c.args.self.now.things in
    let count = c.len-count.ensures ∙ ap length c.reserve.ensures.same in
    let serial : 9223372036854775809 + c.len-count.result ≡ 2 ^ 63 + suc (length c.args.self.now.kids.0) = omega (arith, count) in
    let id : Id = record { thread = c.args.self.now.number; serial = 9223372036854775809 + c.len-count.result } in
    let here : id ≡ thread_id c.args.self.now.number (length c.args.self.now.kids.0) = λ i. record { thread = c.args.self.now.number; serial = serial i } in
    let next : id ≡ next_thread own.thread v.log =
    here ∙ (next_id_is c.args.self.now.number (length c.args.self.now.kids.0) l.sound l.numbered refl ∙ ap (λ t. next_thread t v.log) (l.sound.thread_is ∙ sym l.mine)) in
    served_as_call c.launch.result c.args.step (Start id c.args.body (map plain c.in-Some.values.items)) (Start (next_thread own.thread v.log) c.args.body (map plain c.args.values.items)) v.log (g.K.Seat.view c.launch.new.self.seat).log own c.launch.new.self.things
    (λ i. Start (next i) c.args.body (c.in-Some.ensures.same.0 i)) c.launch.ensures.served
