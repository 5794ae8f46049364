use Rattle.std.proofs.Common.{◌≡◌, length, drop}
use Rattle.rb_model.specs.Ends.{over}
use Rattle.rb_thread.specs.Alive as alive
use Rattle.rb_thread.specs.Kins.{AreCleared}
use Rattle.rb_thread.proofs.Tails.{TailSoFar}
use Rattle.rb_thread.proofs.threaded.Threaded.gather_all.Given as goal

abbrev pub invariant-kids : goal.invariant-kids
invariant-kids g l =
    alive.Alive g.K.Seat.of g.K.Seat.seen g.C.Due.keeps (λ f z j p. goal.F-pre g f z j p) (λ f z j p q. goal.F-post g f z j p q) g.J.Whose.id g.J.Whose.script g.J.Whose.steps g.J.Whose.job (g.K.Seat.home l.self.seat) (g.K.Seat.view l.self.seat) l.self.things l.self.number l.self.known.refs l.self.kids.0 l.self.spawn l.self.again
    × (l.self.things ≡ l.fn.self.things)
    × (length l.self.kids.0 ≡ length l.fn.self.kids.0)
    × AreCleared l.place l.self.kids.0
    × (drop l.place l.self.kids.0 ≡ drop l.place l.fn.self.kids.0)
    × TailSoFar l.step l.place l.fn.self.kids.0 (g.K.Seat.view l.fn.self.seat).log (over l.fn.end) (g.K.Seat.view l.self.seat).log (over l.last) l.lacking
