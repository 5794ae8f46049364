use Rattle.std.proofs.Common.{◌∙◌, sym, ap, [], map, length, arith}
use Rattle.rb_model.specs.Values.{Nil}
use Rattle.rb_machine.specs.Scopes.{fresh}
use Rattle.rb_machine.specs.Control.{On, Following}
use Rattle.rb_code.specs.Erase.{erase}
use Rattle.rb_code.specs.Resolved.{fits, every}
use Rattle.rb_walk.proofs.Moves.{same}
use Rattle.rb_walk.proofs.Rooms.{lies}
use Rattle.rb_walk.proofs.Endings.{main_opens, main_fits}
use Rattle.rb_interp.proofs.walker.Walker.top.Goals as goal

pub returns-clause-came : goal.returns-clause-came
returns-clause-came g c = λ S start k st e a.
    let script = c.args.self.now.context.script.now in
    let left = c.args.self.now.left in
    let size = script.main_size in
    let room = c.clear.new.room in
    let right = main_fits script S st.fits in
    let kept = c.script-script.ensures in
    let clear = rw kept at c.clear.ensures.within in
    let opens = main_opens S.main_names room size right.0 clear in
    let b = same a (ap (λ ns. On (Following Nil ns) k (record { me = Nil; locals = fresh S.main_names [] }) 0 left) (sym st.main)
    ∙ ap (λ ls. On (Following Nil (map erase script.main)) k (record { me = Nil; locals = ls }) 0 left) (sym opens)) in
    let under = lies (every (map (fits S) script.main)) S.main_names size c.args.self.now.base (length room) right.1 right.0 (omega (arith, c.requires.base)) (omega (arith, c.requires.room, c.clear.ensures.room)) in
    let f = rw (c.as_slice.ensures, kept, c.requires.me) at c.body.ensures.came in
    (f S S.main_names size st e under).1 start k b
