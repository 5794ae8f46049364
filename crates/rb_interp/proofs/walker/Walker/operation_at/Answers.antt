use Rattle.std.proofs.Common.{◌≡◌, rules, to_z, of_z, w64}
use Rattle.rb_interp.proofs.walker.Walker.operation_at.Goals as goal

pub returns : goal.returns
returns g c =
    let m = c.in_ok-m.m in
    let n = c.in_ok-n.n in
    let y : to_z w64 (of_z w64 m) ≡ m = search rules in
    let z : to_z w64 (of_z w64 n) ≡ n = search rules in
    (m, n, c.in_ok-m.ensures, c.in_ok-n.ensures, rw (y, z) at c.in_ok-answer.ensures)
