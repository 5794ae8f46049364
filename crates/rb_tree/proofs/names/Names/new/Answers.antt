use Rattle.std.proofs.Common.{arith, ap, map, length}
use Rattle.rb_tree.proofs.Numbering.{none-different}
use Rattle.rb_tree.proofs.names.Names.new.Goals as goal

pub invariant_of-result : goal.invariant_of-result
invariant_of-result c = (let e = ap length c.new.ensures.empty in omega arith, none-different _ (ap (map (λ t. t.items)) c.new.ensures.empty))
