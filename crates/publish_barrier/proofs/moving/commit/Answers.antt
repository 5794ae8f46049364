use Rattle.std.proofs.Common.{◌≤◌, ◌<◌, length, rules}
use Rattle.publish_barrier.proofs.Committing.{all_left, has_room, is_private, none_left, one_leaves}
use Rattle.publish_barrier.proofs.moving.commit.Goals as goal

pub moved-init : goal.moved-init
moved-init g c = none_left c.args.heap.now c.args.known.now.refs c.args.known.now.room c.args.moved.now c.requires.private c.requires.room

pub leave_at-requires : goal.leave_at-requires
leave_at-requires g c =
    let within : c.moved.number < length c.args.moved.now = search rules in
    record {
      private = is_private c.args.heap.now c.moved.heap c.args.known.now.refs c.moved.known.refs c.moved.known.room c.args.moved.now c.moved.number c.moved.invariant within;
      room = has_room c.args.heap.now c.moved.heap c.args.known.now.refs c.moved.known.refs c.moved.known.room c.args.moved.now c.moved.number c.moved.invariant within;
    }

pub moved-preserved : goal.moved-preserved
moved-preserved g c =
    let within : c.moved.number < length c.args.moved.now = search rules in
    one_leaves c.args.heap.now c.moved.heap c.args.known.now.refs c.moved.known.refs c.moved.known.room c.args.moved.now c.moved.number c.moved.invariant
    c.leave_at.new.heap c.leave_at.new.known.refs c.leave_at.new.known.room within c.leave_at.ensures.left c.leave_at.ensures.known c.leave_at.ensures.room

pub returns : goal.returns
returns g c =
    let past : length c.args.moved.now ≤ c.moved.number = search rules in
    let all = all_left c.args.heap.now c.moved.heap c.args.known.now.refs c.moved.known.refs c.moved.known.room c.args.moved.now c.moved.number c.moved.invariant past in
    record { left = all.0; known = all.1 }
