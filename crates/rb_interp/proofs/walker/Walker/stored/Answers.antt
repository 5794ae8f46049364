use Rattle.std.proofs.Common.{◌≡◌, to_z, of_z, w64, rules}
use Rattle.rb_walk.specs.Outcome.{value_of}
use Rattle.rb_interp.proofs.walker.Walker.stored.Goals as goal

pub returns-in-Some-clause-came : goal.returns-in-Some-clause-came
returns-in-Some-clause-came g c =
    let z : to_z w64 (of_z w64 c.in-Some.place) ≡ c.in-Some.place = search rules in
    λ name e S start k sc p a.
    let q = c.in-Some.ensures in
    let v = value_of c.args.came c.args.self.now.value in
    let puts = rw z at c.put_came.ensures.came in
    let asked = rw (q.asked v c.args.self.now.context.program.now name e) at (rw q.index at a) in
    rw c.put_came.ensures.stays.2 (puts c.args.depth S start k sc p asked)

pub returns-then-is_key_put-clause-came : goal.returns-then-is_key_put-clause-came
returns-then-is_key_put-clause-came g c = λ name e S start k sc p a.
    let v = value_of c.args.came c.args.self.now.value in
    let asked = rw (c.is_key_put.ensures c.if-is_key_put.true c.args.self.now.context.program.now name v e) at a in
    rw c.put_pair.ensures.stays.2 (c.put_pair.ensures.came c.args.depth S start k sc p asked)

pub returns-clause-came : goal.returns-clause-came
returns-clause-came g c =
    let t = c.take-value.ensures in
    rw (t.stays.1, t.stays.2, t.stays.3, t.value) at c.stored_any.ensures.came
