use Rattle.std.proofs.Common.{◌+◌, ◌≤◌, length, arith}
use Rattle.std.specs.Prelude.{slice_set}
use Rattle.rb_model.specs.Values.{plain}
use Rattle.rb_walk.proofs.Walks.{opens_none, opens_one, opens_alone, opens_two, stays_below, stays_above}
use Rattle.rb_walk.proofs.slots.open_block.Goals as goal

pub returns-then-takes-eq0-clause-within : goal.returns-then-takes-eq0-clause-within
returns-then-takes-eq0-clause-within c = opens_none _ c.args.from c.args.count c.args.takes _ _ c.if-takes-eq0.true c.clear.ensures.within

pub returns-then-takes-eq1-clause-below : goal.returns-then-takes-eq1-clause-below
returns-then-takes-eq1-clause-below c = stays_below c.args.room.now c.clear.new.room c.args.from c.args.from c.args.first (omega arith) c.clear.ensures.below

pub returns-then-takes-eq1-clause-above : goal.returns-then-takes-eq1-clause-above
returns-then-takes-eq1-clause-above c = stays_above c.args.room.now c.clear.new.room (c.args.from + c.args.count) c.args.from c.args.first (omega (arith, c.if-count-eq0.false)) c.clear.ensures.above

pub returns-then-takes-eq1-clause-within : goal.returns-then-takes-eq1-clause-within
returns-then-takes-eq1-clause-within c =
    let long : c.args.from + c.args.count ≤ length c.clear.new.room = omega (arith, c.requires, c.clear.ensures.room) in
    opens_one c.clear.new.room c.args.from c.args.count c.args.takes c.args.first (plain c.args.second) c.if-takes-eq1.true long c.clear.ensures.within

pub returns-then-count-eq1-clause-below : goal.returns-then-count-eq1-clause-below
returns-then-count-eq1-clause-below c = stays_below c.args.room.now c.clear.new.room c.args.from c.args.from c.args.first (omega arith) c.clear.ensures.below

pub returns-then-count-eq1-clause-above : goal.returns-then-count-eq1-clause-above
returns-then-count-eq1-clause-above c = stays_above c.args.room.now c.clear.new.room (c.args.from + c.args.count) c.args.from c.args.first (omega (arith, c.if-count-eq0.false)) c.clear.ensures.above

pub returns-then-count-eq1-clause-within : goal.returns-then-count-eq1-clause-within
returns-then-count-eq1-clause-within c =
    let long : c.args.from + c.args.count ≤ length c.clear.new.room = omega (arith, c.requires, c.clear.ensures.room) in
    opens_alone c.clear.new.room c.args.from c.args.count c.args.takes c.args.first (plain c.args.second) (omega (arith, c.if-takes-eq0.false)) c.if-count-eq1.true long

pub returns-clause-below : goal.returns-clause-below
returns-clause-below c =
    stays_below c.args.room.now (slice_set c.clear.new.room c.args.from c.args.first) c.args.from (c.args.from + 1) c.args.second (omega arith)
    (stays_below c.args.room.now c.clear.new.room c.args.from c.args.from c.args.first (omega arith) c.clear.ensures.below)

pub returns-clause-above : goal.returns-clause-above
returns-clause-above c =
    stays_above c.args.room.now (slice_set c.clear.new.room c.args.from c.args.first) (c.args.from + c.args.count) (c.args.from + 1) c.args.second (omega (arith, c.if-count-eq0.false, c.if-count-eq1.false))
    (stays_above c.args.room.now c.clear.new.room (c.args.from + c.args.count) c.args.from c.args.first (omega (arith, c.if-count-eq0.false)) c.clear.ensures.above)

pub returns-clause-within : goal.returns-clause-within
returns-clause-within c =
    let long : c.args.from + c.args.count ≤ length c.clear.new.room = omega (arith, c.requires, c.clear.ensures.room) in
    opens_two c.clear.new.room c.args.from c.args.count c.args.takes c.args.first c.args.second (omega (arith, c.if-takes-eq0.false, c.if-takes-eq1.false)) (omega (arith, c.if-count-eq0.false, c.if-count-eq1.false)) long c.clear.ensures.within
