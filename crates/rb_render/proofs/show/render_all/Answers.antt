use Rattle.std.proofs.Common.{◌≡◌, ◌+◌, map, take, length, ap, sym, arith}
use Rattle.rb_model.specs.Values.{plain}
use Rattle.rb_render.specs.Forms as spec
use Rattle.rb_render.proofs.Writing.{parts_grow, parts_more}
use Rattle.rb_render.proofs.show.render_all.Goals as goal

pub returns-then-len-gt-MAX_BYTES-clause-too_long : goal.returns-then-len-gt-MAX_BYTES-clause-too_long
returns-then-len-gt-MAX_BYTES-clause-too_long c = λ _.
    let made : c.add_part.new.out.items ≡ spec.parts c.args.program.now c.args.form (map plain (take (c.values.value-index + 1) c.args.values.now)) =
    parts_more c.args.program.now c.args.form c.args.values.now c.values.value-index c.value-item.result c.value-item.result c.values.out.items c.add_part.new.out.items
    c.values-test.true (sym c.value-item.is) c.values.invariant.written c.in_default.ensures in
    omega (arith, ap length made, c.if-len-gt-MAX_BYTES.true, c.len.ensures, parts_grow c.args.program.now c.args.form (c.values.value-index + 1) c.args.values.now)
