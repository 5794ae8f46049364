use Rattle.std.proofs.Common.{◌≡◌, Some, of_z, to_z, w64, ap, rules}
use Rattle.rb_machine.specs.Call.{enter}
use Rattle.rb_code.specs.Erase.{erase_method}
use Rattle.rb_walk.specs.Carries.{me_of}
use Rattle.rb_walk.proofs.Moves.{same}
use Rattle.rb_interp.proofs.walker.Walker.entered_writer.Goals as goal

pub returns-clause-came : goal.returns-clause-came
returns-clause-came g c = λ S start k sc at right a.
    let n = c.in_ok-n.n in
    let z : to_z w64 (of_z w64 n) ≡ n = search rules in
    let f = rw z at c.in_ok-came.ensures.came in
    f c.args.self.now.value S start k sc at right
    (same a (ap (λ vs. enter S (erase_method c.args.target.method.now) (me_of (Some c.args.target.object)) vs at k sc c.args.depth c.args.self.now.left) c.in_ok-n.ensures))
