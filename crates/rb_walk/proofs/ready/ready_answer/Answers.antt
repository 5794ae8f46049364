use Rattle.std.proofs.Common.{map}
use Rattle.rb_model.specs.Values.{plain}
use Rattle.rb_walk.proofs.Leaves.{numbered_if}
use Rattle.rb_walk.proofs.ready.ready_answer.Goals as goal

pub returns-in-Some : goal.returns-in-Some
returns-in-Some c = numbered_if c.in-Some.number c.args.method (plain c.args.receiver.now) (map plain c.args.args.now) c.ready_answer_by.result c.in-Some.is c.ready_answer_by.ensures
