use Rattle.rb_shared.proofs.Slots.{others_free_no_slot}
use Rattle.rb_shared.proofs.laws.slots.Goals as goal

pub returns : goal.returns
returns c = others_free_no_slot
