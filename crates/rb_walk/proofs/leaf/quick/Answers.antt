use Rattle.std.proofs.Common.{◌≡◌, sym, subst, to_z, of_z, w64, rules}
use Rattle.rb_walk.specs.Answers.{IsSmall}
use Rattle.rb_walk.proofs.Leaves.{quick_if}
use Rattle.rb_walk.proofs.leaf.quick.Goals as goal

pub returns : goal.returns
returns c =
    let m : to_z w64 (of_z w64 c.in_ok-m.m) ≡ c.in_ok-m.m = search rules in
    let n : to_z w64 (of_z w64 c.in_ok-n.n) ≡ c.in_ok-n.n = search rules in
    quick_if c.args.method c.args.left.now c.args.right.now c.args.room.now c.operation_by.result (to_z w64 (of_z w64 c.in_ok-m.m)) (to_z w64 (of_z w64 c.in_ok-n.n))
    (subst (λ i. IsSmall c.args.left.now c.args.room.now i) (sym m) c.in_ok-m.ensures) (subst (λ i. IsSmall c.args.right.now c.args.room.now i) (sym n) c.in_ok-n.ensures) c.operation_by.ensures
