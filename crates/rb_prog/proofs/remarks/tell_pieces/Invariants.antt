use Rattle.std.proofs.Common.{◌≤◌, take}
use Rattle.rb_edge.specs.Edge.{Adds}
use Rattle.rb_prog.proofs.Telling.{joined}
use Rattle.rb_prog.proofs.remarks.tell_pieces.Given as goal

abbrev pub invariant-pieces : goal.invariant-pieces
invariant-pieces g l = record {
  told : Adds (g.E.Sink.told l.fn.err) (g.E.Sink.told l.err) (joined (take l.piece-index l.pieces));
  rises : g.E.Sink.faults l.fn.err ≤ g.E.Sink.faults l.err;
}
