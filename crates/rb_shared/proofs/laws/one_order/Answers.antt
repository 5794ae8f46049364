use Rattle.rb_shared.proofs.Placed.{one_order_is_legal}
use Rattle.rb_shared.proofs.laws.one_order.Goals as goal

pub returns : goal.returns
returns c = one_order_is_legal
