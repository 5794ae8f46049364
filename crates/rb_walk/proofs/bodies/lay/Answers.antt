use Rattle.std.proofs.Common.{◌++◌, ◌∙◌, map, length, arith}
use Rattle.rb_model.specs.Values.{plain}
use Rattle.rb_walk.proofs.Lists.{len_set}
use Rattle.rb_walk.proofs.Walks.{laid_more}
use Rattle.rb_walk.proofs.bodies.lay.Goals as goal

pub slots-preserved : goal.slots-preserved
slots-preserved c =
    let inv = c.slots.invariant in
    let values = map plain c.args.first.now ++ map plain c.args.second.now in
    let test = c.slots-test.true in
    let within = c.requires in
    record {
      room = len_set c.slots.room c.slots.slot c.in_ok-room.field-0 ∙ inv.room;
      within = laid_more c.slots.room c.slots.slot c.in_ok-room.field-0 values (omega (arith, test, within, inv.room)) c.in_ok-room.ensures inv.within;
    }
