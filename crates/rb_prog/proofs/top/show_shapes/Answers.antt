use Rattle.std.proofs.Common.{ap, Err, inl}
use Rattle.rb_prog.specs.Shapes.{all, sink_failed, out_of_memory}
use Rattle.rb_prog.proofs.Adding.{adds_none}
use Rattle.rb_prog.proofs.top.show_shapes.Goals as goal

pub returns-in-Ok-clause-lines : goal.returns-in-Ok-clause-lines
returns-in-Ok-clause-lines g c = (_, all c.in-Ok.ensures.all, inl (adds_none (g.E.Sink.told c.args.err.now)))

pub returns-in-Err-Sink-clause-lines : goal.returns-in-Err-Sink-clause-lines
returns-in-Err-Sink-clause-lines g c =
    rw c.cut_short.ensures.report (_, sink_failed (c.in-Err-Sink.ensures.sink (ap Err c.in-Err-Sink.field-0-is)).1, c.cut_short.ensures.told)

pub returns-in-Err-Memory-clause-lines : goal.returns-in-Err-Memory-clause-lines
returns-in-Err-Memory-clause-lines g c =
    rw c.cut_short-in-Err-Memory.ensures.report
    (_, out_of_memory (c.in-Err-Memory.ensures.memory (ap Err c.in-Err-Memory.field-0-is)), c.cut_short-in-Err-Memory.ensures.told)
