use Rattle.std.proofs.Common.{◌≡◌, ◌++◌, ◌<◌, ◌∙◌, ap, subst, arith}
use Rattle.shape_core.specs.Shape.{Shape, root_of, shape_at}
use Rattle.rb_edge.specs.Edge.{Adds}
use Rattle.rb_prog.specs.Remarks.{Text}
use Rattle.rb_prog.specs.Shapes.{shape_line}
use Rattle.rb_prog.proofs.Shaping.{adds_line, breaks_off, breaks_before, line_has_byte}
use Rattle.rb_prog.proofs.shapes.tell_shapes.Goals as goal

pub shapes-preserved : goal.shapes-preserved
shapes-preserved g c =
    let told = g.K.Sink.told in
    let line = shape_line c.args.program.now in
    let known = subst (λ n. c.shapes.number < n) c.len-number-end.ensures c.shapes-test.true in
    let shape : Shape = shape_at c.args.shapes.now (record { 0 = c.shapes.number }) in
    let made : c.add_line.new.line.items ≡ line shape = c.in_default.ensures ∙ ap (λ (t : Text). t ++ line shape) c.clear.ensures.items in
    let whole = subst (λ (t : Text). Adds (told c.shapes.out) (told c.write_all.new.sink) t) (c.as_slice.ensures.value ∙ made) c.in_default-write_all.ensures.all in
    record {
      told = adds_line line c.args.shapes.now c.shapes.number (root_of 0) known (told c.args.out.now) (told c.shapes.out) (told c.write_all.new.sink) c.shapes.invariant.told whole;
      rises = omega (arith, c.in_default-write_all.ensures.rises, c.shapes.invariant.rises);
    }

pub returns-in-Err-clause-memory : goal.returns-in-Err-clause-memory
returns-in-Err-clause-memory g c = λ is.
    let line = shape_line c.args.program.now in
    let known = subst (λ n. c.shapes.number < n) c.len-number-end.ensures c.shapes-test.true in
    breaks_before line c.args.shapes.now c.shapes.number (root_of 0) known (g.K.Sink.told c.args.out.now) (g.K.Sink.told c.shapes.out) c.shapes.invariant.told
    (line_has_byte c.args.program.now (shape_at c.args.shapes.now (record { 0 = c.shapes.number })))

pub returns-in-Err-write_all-clause-sink : goal.returns-in-Err-write_all-clause-sink
returns-in-Err-write_all-clause-sink g c = λ is.
    let told = g.K.Sink.told in
    let line = shape_line c.args.program.now in
    let known = subst (λ n. c.shapes.number < n) c.len-number-end.ensures c.shapes-test.true in
    let shape : Shape = shape_at c.args.shapes.now (record { 0 = c.shapes.number }) in
    let made : c.add_line.new.line.items ≡ line shape = c.in_default.ensures ∙ ap (λ (t : Text). t ++ line shape) c.clear.ensures.items in
    let front = rw (c.as_slice.ensures.value ∙ made) at c.in-Err-write_all.ensures.front in
    (front.0, breaks_off line c.args.shapes.now c.shapes.number (root_of 0) known (told c.args.out.now) (told c.shapes.out) (told c.write_all.new.sink) front.0 c.shapes.invariant.told front.1 front.2)
