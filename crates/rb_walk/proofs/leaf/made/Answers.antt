use Rattle.std.proofs.Common.{◌≡◌, to_z, of_z, w64, rules}
use Rattle.rb_walk.proofs.Quick.{made_by}
use Rattle.rb_walk.proofs.leaf.made.Goals as goal

pub returns-in-Int : goal.returns-in-Int
returns-in-Int c =
    let x = c.in-Operate in
    let z : to_z w64 (of_z w64 c.in-Int.n) ≡ c.in-Int.n = search rules in
    let q = rw (c.get.ensures, c.get-in-Operate.ensures, c.in-Int.is) at c.in_ok-n-in-Operate.ensures in
    rw z (made_by c.args.code.now x.method x.field-1 x.left x.right x.field-4 c.args.room.now c.in-Int.n x.is q)
