use Rattle.std.proofs.Common.{◌≡◌, to_z, of_z, w64, rules}
use Rattle.rb_interp.proofs.walker.Walker.asked_integer.Goals as goal

pub returns-then-is_element-clause-came : goal.returns-then-is_element-clause-came
returns-then-is_element-clause-came g c =
    let z : to_z w64 (of_z w64 c.args.index) ≡ c.args.index = search rules in
    λ name e S start k sc p a.
    let asked = c.is_element.ensures c.if-is_element.true c.args.index c.args.self.now.context.program.now name e in
    let y = c.element.ensures in
    rw y.stays.2 ((rw z at y.came) S start k sc c.args.depth (rw asked at a))

pub returns-clause-came : goal.returns-clause-came
returns-clause-came g c =
    let z : to_z w64 (of_z w64 c.args.index) ≡ c.args.index = search rules in
    rw z at c.asked_any.ensures.came
