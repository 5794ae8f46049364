use Rattle.std.proofs.Common.{◌≡◌, sym, ◌∙◌, to_z, of_z, w64}
use Rattle.std.proofs.lemmas.Int.{to_z-of_z}
use Rattle.rb_builtin.proofs.Table.{operation_is}
use Rattle.rb_builtin.proofs.integer.integer_operation.Goals as goal

pub returns-clause-table : goal.returns-clause-table
returns-clause-table c = λ e P name f.
    let y : to_z w64 (of_z w64 c.args.m) ≡ c.args.m = to_z-of_z w64 c.args.m c.ranges.m in
    let z : to_z w64 (of_z w64 c.args.n) ≡ c.args.n = to_z-of_z w64 c.args.n c.ranges.n in
    operation_is P name c.args.method c.args.m c.args.n e f ∙ sym (rw (y, z) at c.operation.ensures)
