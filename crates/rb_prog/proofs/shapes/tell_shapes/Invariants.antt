use Rattle.std.proofs.Common.{◌≤◌, take, map}
use Rattle.std.specs.List.{concat}
use Rattle.rb_edge.specs.Edge.{Adds}
use Rattle.rb_prog.specs.Shapes.{shape_line}
use Rattle.rb_prog.proofs.shapes.tell_shapes.Given as goal

abbrev pub invariant-shapes : goal.invariant-shapes
invariant-shapes g l = record {
  told : Adds (g.K.Sink.told l.fn.out) (g.K.Sink.told l.out) (concat (map (shape_line l.program) (take l.number l.shapes)));
  rises : g.K.Sink.faults l.fn.out ≤ g.K.Sink.faults l.out;
}
