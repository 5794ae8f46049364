use Rattle.rb_walk.proofs.Immediates.{given_row, given_leaf}
use Rattle.rb_interp.proofs.walker.Walker.array_at.Goals as goal

pub returns-then-is_row-clause-given : goal.returns-then-is_row-clause-given
returns-then-is_row-clause-given g c = given_row c.args.code.now c.args.room.now _ c.row_at.result c.args.is_row c.if-is_row.true c.row_at.ensures.given

pub returns-else-is_row-clause-given : goal.returns-else-is_row-clause-given
returns-else-is_row-clause-given g c = given_leaf c.args.code.now c.args.room.now _ c.local_collection.result c.args.is_row c.if-is_row.false c.local_collection.ensures.held
